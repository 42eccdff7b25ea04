use Rattle.std.proofs.Common.{◌≡◌, ◌++◌, ℕ, drop, map}
use Rattle.std.specs.List.{zip, enumerate_from}
use Rattle.sds_value.specs.declared.table.ColumnDef.{ColumnDef}
use Rattle.sds_trade.specs.rules.LoadRows.{value_for}
use Rattle.sds_rowvalues.proofs.row_values.key_alone.Given as goal

abbrev pub invariant-loop-place : goal.invariant-loop-place
invariant-loop-place l =
    l.values.items ++ map (λ (at : ℕ × ColumnDef). value_for (zip l.places l.key.0) at.0) (enumerate_from l.place (drop l.place l.columns))
    ≡ map (λ (at : ℕ × ColumnDef). value_for (zip l.places l.key.0) at.0) (enumerate_from 0 l.columns)
