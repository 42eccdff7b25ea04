use Rattle.std.proofs.Common.{◌≡◌, ◌++◌, drop, map}
use Rattle.std.specs.List.{zip}
use Rattle.sds_value.specs.declared.kind.Value.{Value}
use Rattle.sds_value.specs.declared.table.ColumnDef.{ColumnDef}
use Rattle.sds_trade.specs.rules.RoutedValues.{field_of}
use Rattle.sds_rowvalues.proofs.printing.fields_of_values.Given as goal

abbrev pub invariant-loop-place : goal.invariant-loop-place
invariant-loop-place l = l.fields ++ map (λ (at : ColumnDef × Value). field_of at.0.kind at.1) (zip (drop l.place l.columns) (drop l.place l.values)) ≡ map (λ (at : ColumnDef × Value). field_of at.0.kind at.1) (zip l.columns l.values)
