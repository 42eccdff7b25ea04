use Rattle.std.proofs.Common.{◌≡◌, ◌++◌, drop, map}
use Rattle.sds_types.specs.declared.row.Row.{Row}
use Rattle.sds_history.specs.history.RowRecords.{row_record}
use Rattle.sds_records.specs.Parts.{table_row}
use Rattle.sds_image.specs.Pairs.{pairs}
use Rattle.sds_image.proofs.records.push_rows.Given as goal

abbrev pub invariant-loop-row : goal.invariant-loop-row
invariant-loop-row l = l.all.items ++ pairs (map (λ (row : Row). row_record l.config (table_row l.table row)) (map (λ row. row.now) (drop l.row-index l.rows)))
    ≡ l.initial.all.items ++ pairs (map (λ (row : Row). row_record l.config (table_row l.table row)) (map (λ row. row.now) l.rows))
