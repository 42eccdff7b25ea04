use Rattle.std.proofs.Common.{◌≡◌, ◌++◌, map}
use Rattle.sds_history.specs.history.RowRecords.{row_record}
use Rattle.sds_image.specs.Pairs.{pairs}
use Rattle.sds_image.proofs.RowsByTable.{rows_below}
use Rattle.sds_image.proofs.records.push_tables.Given as goal

abbrev pub invariant-loop-table : goal.invariant-loop-table
invariant-loop-table l = l.all.items ≡ l.initial.all.items ++ pairs (map (row_record l.config) (rows_below l.table l.tables.rows))
