use Rattle.std.proofs.Common.{◌≡◌, ◌++◌, ℕ, List, drop, map}
use Rattle.std.specs.List.{filter}
use Rattle.sds_trade.specs.rules.ColumnFunctions.{takes_part}
use Rattle.sds_trade.specs.rules.MadeRows.{side_of}
use Rattle.sds_trade.specs.rules.MadeSides.{is_further, made_fields}
use Rattle.sds_transform.proofs.made_sides.made_side.Given as goal

abbrev pub invariant-loop-column : goal.invariant-loop-column
invariant-loop-column l = l.fields.items
    ++ made_fields l.way (filter (is_further l.side) (filter (takes_part l.row.event) (drop l.column-index l.columns))) l.side
    ≡ side_of l.way l.transform l.row l.side
