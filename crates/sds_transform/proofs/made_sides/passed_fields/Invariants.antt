use Rattle.std.proofs.Common.{◌≡◌, ◌++◌, ℕ, List, drop, map}
use Rattle.std.specs.List.{filter, flat_map}
use Rattle.sds_value.specs.declared.row.Field.{Field}
use Rattle.sds_trade.specs.rules.ColumnFunctions.{takes_part}
use Rattle.sds_trade.specs.rules.MadeSides.{in_place, column_for, passed_fields}
use Rattle.sds_transform.proofs.made_sides.passed_fields.Given as goal

abbrev pub invariant-loop-name : goal.invariant-loop-name
invariant-loop-name l = l.fields.items
    ++ flat_map (λ (at : List ℕ × Field). in_place l.way l.side at (column_for (filter (takes_part l.event) l.columns) at.0)) (drop l.name-index l.name-items)
    ≡ passed_fields l.way (filter (takes_part l.event) l.columns) l.side
