-- The rows that fields tell, value by value.
use Rattle.std.proofs.Common.{◌≡◌, ℕ, zero, suc, ◌+◌, ◌<◌, List, [], ◌∷◌, ◌++◌, length, length-append, get_or, take, drop, Option, Some, None, refl, sym, ap, subst, ◌∙◌, arith, true≢false}
use Rattle.std.proofs.lemmas.List.{take_more}
use Rattle.std.specs.List.{All, zip}
use Rattle.std.specs.Prelude.{IfSome}
use Rattle.sds_trade.proofs.Lists.{all_head, all_tail}
use Rattle.sds_value.specs.declared.kind.Value.{Value}
use Rattle.sds_value.specs.declared.row.Event.{Event}
use Rattle.sds_value.specs.declared.row.Event.TheVariants.{Update}
use Rattle.sds_value.specs.declared.row.Field.{Field}
use Rattle.sds_value.specs.declared.table.ColumnDef.{ColumnDef}
use Rattle.sds_types.specs.declared.row.Row.{Row}
use Rattle.sds_trade.specs.rules.Fitting.{FitColumns, HasRows, Suits}
use Rattle.sds_trade.specs.rules.RoutedValues.{field_of}
use Rattle.sds_history.specs.history.RowRecords.{row_fields, side_fields}
use Rattle.sds_records.specs.declared.told_rows.Sides.{Sides}

-- a row has a field for each column
pub fields_long : (columns : List ColumnDef) (values : List Value) → length values ≡ length columns → length (row_fields columns values) ≡ length columns
fields_long [] [] same = refl
fields_long [] (v ∷ values) same = absurd (omega (arith, same))
fields_long (c ∷ columns) [] same = absurd (omega (arith, same))
fields_long (c ∷ columns) (v ∷ values) same = ap suc (fields_long columns values (omega (arith, same)))

pub fields_too_few : (columns : List ColumnDef) (fields : List Field) (row : Row) → FitColumns columns row.0 → fields ≡ row_fields columns row.0 → (length columns ≡ length fields → ⊥) → ⊥
fields_too_few columns fields row fit same differs = differs (sym (ap length same ∙ fields_long columns row.0 fit.whole))

-- the value that the field at a place tells
pub record ValueAt (column : ColumnDef) (field : Field) (values : List Value) (place : ℕ) : Type 0 where
  pub value : Value
  pub suits : Suits (column, value)
  pub field_is : field ≡ field_of column.kind value
  pub there : value ≡ get_or values place value
  pub within : place < length values

pub value_at : (columns : List ColumnDef) (values : List Value) (place : ℕ) (column : ColumnDef) (field : Field) → length values ≡ length columns → All Suits (zip columns values) → place < length columns
    → column ≡ get_or columns place column → field ≡ get_or (row_fields columns values) place field → ValueAt column field values place
value_at [] values place column field same each within at told = absurd (omega (arith, within))
value_at (c ∷ columns) [] place column field same each within at told = absurd (omega (arith, same))
value_at (c ∷ columns) (v ∷ values) zero column field same each within at told = record {
  value = v;
  suits = subst (λ (x : ColumnDef). Suits (x, v)) (sym at) (all_head Suits (c, v) (zip columns values) each);
  field_is = told ∙ ap (λ (x : ColumnDef). field_of x.kind v) (sym at);
  there = refl;
  within = omega arith;
}
value_at (c ∷ columns) (v ∷ values) (suc place) column field same each within at told =
    let later = value_at columns values place column field (omega (arith, same)) (all_tail Suits (c, v) (zip columns values) each) (omega (arith, within)) at told in
    let less = later.within in
    record { value = later.value; suits = later.suits; field_is = later.field_is; there = later.there; within = omega (arith, less) }

pub value_told : (columns : List ColumnDef) (fields : List Field) (row : Row) (place : ℕ) (column : ColumnDef) (field : Field) → FitColumns columns row.0 → fields ≡ row_fields columns row.0
    → place < length columns → column ≡ get_or columns place column → field ≡ get_or fields place field → ValueAt column field row.0 place
value_told columns fields row place column field fit same within at told =
    value_at columns row.0 place column field fit.whole fit.each within at (subst (λ (fs : List Field). field ≡ get_or fs place field) same told)

-- the values so far with that value
pub one_more : (values told : List Value) (place : ℕ) (found : Value) (column : ColumnDef) (field : Field) (one : ValueAt column field values place) → told ≡ take place values → Some found ≡ Some one.value
    → told ++ found ∷ [] ≡ take (place + 1) values
one_more values told place found column field one same is =
    ap (λ (x : Value). told ++ x ∷ []) (some_of is) ∙ (ap (λ (xs : List Value). xs ++ one.value ∷ []) same
    ∙ (ap (λ (x : Value). take place values ++ x ∷ []) one.there ∙ sym (take_more values place one.value one.within)))
  where
    some_of : {A : Type 0} {a b : A} → Some a ≡ Some b → a ≡ b
    some_of {A} {a} {b} same = cc

-- the two sides of an update
pub record BothSides (columns : List ColumnDef) (fields : List Field) (new old : Option Row) : Type 0 where
  pub left : Row
  pub took : Row
  pub left_is : new ≡ Some left
  pub took_is : old ≡ Some took
  pub left_fits : FitColumns columns left.0
  pub took_fits : FitColumns columns took.0
  pub fields_are : fields ≡ row_fields columns left.0 ++ row_fields columns took.0

pub both_sides : (columns : List ColumnDef) (fields : List Field) (event : Event) (new old : Option Row) → event ≡ Update → HasRows event new old
    → IfSome new (λ (row : Row). FitColumns columns row.0) → IfSome old (λ (row : Row). FitColumns columns row.0)
    → fields ≡ side_fields columns new ++ side_fields columns old → BothSides columns fields new old
both_sides columns fields event new old is has new_fits old_fits same = by new old (subst (λ (e : Event). HasRows e new old) is has) new_fits old_fits same
  where
    by : (new old : Option Row) → HasRows Update new old → IfSome new (λ (row : Row). FitColumns columns row.0) → IfSome old (λ (row : Row). FitColumns columns row.0)
        → fields ≡ side_fields columns new ++ side_fields columns old → BothSides columns fields new old
    by None old has new_fits old_fits same = absurd (true≢false (sym has.0))
    by (Some left) None has new_fits old_fits same = absurd (true≢false (sym has.1))
    by (Some left) (Some took) has new_fits old_fits same =
        record { left = left; took = took; left_is = refl; took_is = refl; left_fits = new_fits; took_fits = old_fits; fields_are = same }

pub not_short : (columns : List ColumnDef) (fields : List Field) (new old : Option Row) → BothSides columns fields new old → length fields < length columns → ⊥
not_short columns fields new old both short =
    let long = ap length both.fields_are ∙ length-append (row_fields columns both.left.0) (row_fields columns both.took.0) in
    let first = fields_long columns both.left.0 both.left_fits.whole in
    omega (arith, long, first, short)

taken : (xs ys : List Field) → take (length xs) (xs ++ ys) ≡ xs
taken [] ys = refl
taken (x ∷ xs) ys = ap (λ rest. x ∷ rest) (taken xs ys)

dropped : (xs ys : List Field) → drop (length xs) (xs ++ ys) ≡ ys
dropped [] ys = refl
dropped (x ∷ xs) ys = dropped xs ys

pub first_side : (columns : List ColumnDef) (fields : List Field) (new old : Option Row) (both : BothSides columns fields new old) → take (length columns) fields ≡ row_fields columns both.left.0
first_side columns fields new old both =
    ap (λ (n : ℕ). take n fields) (sym (fields_long columns both.left.0 both.left_fits.whole))
    ∙ (ap (take (length (row_fields columns both.left.0))) both.fields_are ∙ taken (row_fields columns both.left.0) (row_fields columns both.took.0))

pub last_side : (columns : List ColumnDef) (fields : List Field) (new old : Option Row) (both : BothSides columns fields new old) → drop (length columns) fields ≡ row_fields columns both.took.0
last_side columns fields new old both =
    ap (λ (n : ℕ). drop n fields) (sym (fields_long columns both.left.0 both.left_fits.whole))
    ∙ (ap (drop (length (row_fields columns both.left.0))) both.fields_are ∙ dropped (row_fields columns both.left.0) (row_fields columns both.took.0))

pub sides_are : (columns : List ColumnDef) (fields : List Field) (new old : Option Row) (both : BothSides columns fields new old) → ◌≡◌ {A = Option Sides} (Some (record { new = Some both.left; old = Some both.took })) (Some (record { new = new; old = old }))
sides_are columns fields new old both =
    ap (λ (n : Option Row). some_sides n (Some both.took)) (sym both.left_is) ∙ ap (λ (o : Option Row). some_sides new o) (sym both.took_is)
  where
    some_sides : Option Row → Option Row → Option Sides
    some_sides n o = Some (record { new = n; old = o })
