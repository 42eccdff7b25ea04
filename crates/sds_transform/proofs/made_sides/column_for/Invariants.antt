use Rattle.std.proofs.Common.{◌≡◌, ◌++◌, ℕ, List, drop, map}
use Rattle.std.specs.List.{filter}
use Rattle.sds_trade.specs.rules.ColumnFunctions.{takes_part}
use Rattle.sds_trade.specs.rules.MadeSides.{column_for}
use Rattle.sds_transform.proofs.made_sides.column_for.Given as goal

abbrev pub invariant-loop-column : goal.invariant-loop-column
invariant-loop-column l = column_for (filter (takes_part l.event) (drop l.column-index l.columns)) l.name ≡ column_for (filter (takes_part l.event) l.columns) l.name
