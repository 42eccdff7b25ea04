use Rattle.std.proofs.Common.{◌≡◌, ◌++◌, ℕ, drop, map}
use Rattle.std.specs.List.{zip, enumerate_from}
use Rattle.sds_value.specs.declared.kind.Value.{Value}
use Rattle.sds_value.specs.declared.table.ColumnDef.{ColumnDef}
use Rattle.sds_trade.specs.rules.RowValues as put
use Rattle.sds_rowvalues.proofs.row_values.put_values.Given as goal

abbrev pub invariant-loop-place : goal.invariant-loop-place
invariant-loop-place l =
    l.made.items ++ map (λ (at : (ℕ × ColumnDef) × Value). put.put_value l.row at.0 at.1) (zip (enumerate_from l.place (drop l.place l.columns)) (drop l.place l.values))
    ≡ map (λ (at : (ℕ × ColumnDef) × Value). put.put_value l.row at.0 at.1) (zip (enumerate_from 0 l.columns) l.values)
