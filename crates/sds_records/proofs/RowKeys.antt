-- The fields of a row's key are those of its values at the places of the key.
use Rattle.std.proofs.Common.{◌≡◌, ℕ, zero, suc, ◌<◌, List, [], ◌∷◌, length, map, refl, Some, arith}
use Rattle.std.proofs.lemmas.List.Elements.{All-head, All-tail}
use Rattle.std.specs.Prelude.{slice_get}
use Rattle.std.specs.List.{All}
use Rattle.sds_value.specs.declared.kind.Value.{Value}
use Rattle.sds_value.specs.declared.table.ColumnDef.{ColumnDef}
use Rattle.sds_trade.specs.rules.RoutedValues.{field_of}
use Rattle.sds_trade.specs.rules.Sides.{field_at}
use Rattle.sds_trade.specs.rules.Tables.{value_at}
use Rattle.sds_history.specs.history.RowRecords.{row_fields, key_columns}

-- a column at a place, and the field of its value
record Stands (columns : List ColumnDef) (values : List Value) (place : ℕ) : Type 0 where
  column : ColumnDef
  here : slice_get columns place ≡ Some column
  field : field_at (row_fields columns values) place ≡ field_of column.kind (value_at values place)

stands : (columns : List ColumnDef) (values : List Value) (place : ℕ) → length values ≡ length columns → place < length columns → Stands columns values place
stands [] values place whole within = absurd (omega (arith, within))
stands (c ∷ cs) [] place whole within = absurd (omega (arith, whole))
stands (c ∷ cs) (v ∷ vs) zero whole within = record { column = c; here = refl; field = refl }
stands (c ∷ cs) (v ∷ vs) (suc place) whole within =
    let later = stands cs vs place (omega (arith, whole)) (omega (arith, within)) in
    record { column = later.column; here = later.here; field = later.field }

next_field : (columns : List ColumnDef) (place : ℕ) (places : List ℕ) (column : ColumnDef) (value : Value) (values : List Value) → slice_get columns place ≡ Some column → row_fields (key_columns columns (place ∷ places)) (value ∷ values) ≡ field_of column.kind value ∷ row_fields (key_columns columns places) values
next_field columns place places column value values is = rw is refl

pub key_as_fields : (columns : List ColumnDef) (values : List Value) (places : List ℕ) → length values ≡ length columns → All (λ (place : ℕ). place < length columns) places → row_fields (key_columns columns places) (map (value_at values) places) ≡ map (field_at (row_fields columns values)) places
key_as_fields columns values [] whole within = refl
key_as_fields columns values (place ∷ places) whole within =
    let at = stands columns values place whole (All-head (λ (at : ℕ). at < length columns) place places within) in
    let rest = key_as_fields columns values places whole (All-tail (λ (at : ℕ). at < length columns) place places within) in
    let first = next_field columns place places at.column (value_at values place) (map (value_at values) places) at.here in
    let same = at.field in
    cc
