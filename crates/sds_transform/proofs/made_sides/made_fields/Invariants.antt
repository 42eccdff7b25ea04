use Rattle.std.proofs.Common.{◌≡◌, ◌++◌, ℕ, List, drop, map}
use Rattle.std.specs.List.{filter}
use Rattle.sds_trade.specs.rules.ColumnFunctions.{takes_part}
use Rattle.sds_trade.specs.rules.MadeSides.{made_fields}
use Rattle.sds_transform.proofs.made_sides.made_fields.Given as goal

abbrev pub invariant-loop-column : goal.invariant-loop-column
invariant-loop-column l = l.fields.items ++ made_fields l.way (filter (takes_part l.event) (drop l.column-index l.columns)) l.side ≡ made_fields l.way (filter (takes_part l.event) l.columns) l.side
