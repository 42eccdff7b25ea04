use Rattle.std.proofs.Common.{◌≡◌, ◌++◌, ℕ, List, drop, map}
use Rattle.std.specs.List.{filter, filter_map}
use Rattle.sds_types.specs.declared.transform_column.TransformColumn.{TransformColumn}
use Rattle.sds_trade.specs.rules.ColumnFunctions.{takes_part}
use Rattle.sds_trade.specs.rules.Places.{column_place}
use Rattle.sds_trade.specs.rules.Transforms.{add_by}
use Rattle.sds_transform.proofs.transforms.adds_of.Given as goal

abbrev pub invariant-loop-column : goal.invariant-loop-column
invariant-loop-column l = l.adds
    ++ filter_map (λ (column : TransformColumn). add_by (column_place l.table column.target) column.parsed) (filter (takes_part l.row.event) (drop l.column-index l.column-items))
    ≡ filter_map (λ (column : TransformColumn). add_by (column_place l.table column.target) column.parsed) (filter (takes_part l.row.event) l.column-items)
