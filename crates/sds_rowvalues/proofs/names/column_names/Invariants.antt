use Rattle.std.proofs.Common.{◌≡◌, ◌++◌, drop, map}
use Rattle.sds_value.specs.declared.table.ColumnDef.{ColumnDef}
use Rattle.sds_rowvalues.proofs.names.column_names.Given as goal

abbrev pub invariant-loop-column : goal.invariant-loop-column
invariant-loop-column l = l.names.items ++ map (λ (column : ColumnDef). column.name) (drop l.column-index l.columns) ≡ map (λ (column : ColumnDef). column.name) l.columns
