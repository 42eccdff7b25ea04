-- Rows that are filled value by value, for the tests.
use Rattle.std.proofs.Common.{◌≡◌, ◌≢◌, Ok, Err, ℕ, ◌+◌, ◌<◌, ◌≤◌, ◌||◌, true, false, Bool, List, [], ◌∷◌, ◌++◌, length, length-append, get_or, take, refl, ap, sym, subst, ◌∙◌, arith, nat_lt}
use Rattle.std.proofs.lemmas.List.{take_all, take_more}
use Rattle.std.proofs.lemmas.List.Elements.{All-nil, All-cons, All-append}
use Rattle.std.proofs.lemmas.Str.{scalars-chars}
use Rattle.std.proofs.lemmas.Bool.Decides.{nat_tests}
use Rattle.std.specs.Prelude.{IsTrue}
use Rattle.std.specs.List.{All, list_all, zip}
use Rattle.std.specs.Str.{IsUtf8, all_scalars, chars}
use Rattle.sds_batchtext.proofs.Plain.{left_true, right_true}
use Rattle.sds_value.specs.declared.kind.Binary.{Binary}
use Rattle.sds_value.specs.declared.kind.Binary.TheVariants.{Base64}
use Rattle.sds_value.specs.declared.kind.Kind.{Kind}
use Rattle.sds_value.specs.declared.kind.Value.{Value}
use Rattle.sds_value.specs.declared.refusal.ValueRefusal.TheVariants.{NoMemory}
use Rattle.sds_value.specs.declared.table.ColumnDef.{ColumnDef}
use Rattle.sds_value.specs.Values.{fits, value_of}
use Rattle.sds_trade.specs.rules.Fitting.{FitColumns, Suits}
use Rattle.sds_trade.specs.rules.Tables.{is_null}

-- what a text is read as fits its kind, by the law of the values
pub reads : (kind : Kind) (bytes : List ℕ) (value : Value)
    → ((kind : Kind) (form : Binary) (text : List ℕ) (value : Value) → IsTrue (all_scalars text) → value_of kind form text ≡ Ok value → IsTrue (fits kind value))
    → IsUtf8 bytes → (Ok value ≢ Err NoMemory → Ok value ≡ value_of kind Base64 (chars bytes)) → IsTrue (fits kind value)
reads kind bytes value law utf8 is =
    law kind Base64 (chars bytes) value (scalars-chars bytes utf8) (sym (is (λ (e : Ok value ≡ Err NoMemory). absurd (cc))))

or_right : (a b : Bool) → b ≡ true → (a || b) ≡ true
or_right true b is = refl
or_right false b is = is

pub suits : (kind : Kind) (value : Value) → IsTrue (fits kind value) → IsTrue (is_null value || fits kind value)
suits kind value fit = or_right (is_null value) (fits kind value) fit

zip_push : {X Y : Type 0} (xs : List X) (ys : List Y) (x : X) (y : Y) → length ys ≡ length xs
    → zip (xs ++ x ∷ []) (ys ++ y ∷ []) ≡ zip xs ys ++ (x, y) ∷ []
zip_push [] [] x y same = refl
zip_push [] (z ∷ ys) x y same = absurd (cc)
zip_push (z ∷ xs) [] x y same = absurd (cc)
zip_push (z ∷ xs) (w ∷ ys) x y same = ap (λ rest. (z, w) ∷ rest) (zip_push xs ys x y (omega arith))

row_push : (columns : List ColumnDef) (values : List Value) (column : ColumnDef) (value : Value)
    → FitColumns columns values → Suits (column, value) → FitColumns (columns ++ column ∷ []) (values ++ value ∷ [])
row_push columns values column value fit is = record {
  whole = length-append values (value ∷ []) ∙ (ap (λ n. n + 1) fit.whole ∙ sym (length-append columns (column ∷ [])));
  each = rw (zip_push columns values column value fit.whole)
      (All-append Suits (zip columns values) ((column, value) ∷ []) fit.each (All-cons Suits (column, value) [] is (All-nil Suits)));
}

-- values that fit the columns up to a place, with one for the next
pub row_more : (columns : List ColumnDef) (values : List Value) (place : ℕ) (column : ColumnDef) (value : Value) → place < length columns
    → column ≡ get_or columns place column → FitColumns (take place columns) values → IsTrue (is_null value || fits column.kind value)
    → FitColumns (take (place + 1) columns) (values ++ value ∷ [])
row_more columns values place column value within at fit is =
    rw (take_more columns place column within, ← at) (row_push (take place columns) values column value fit is)

pub row_end : (columns : List ColumnDef) (values : List Value) (place : ℕ) → length columns ≤ place
    → FitColumns (take place columns) values → FitColumns columns values
row_end columns values place past fit = subst (λ (cs : List ColumnDef). FitColumns cs values) (take_all place columns past) fit

-- places that pass the test are places of the list
pub key_within : (width : ℕ) (places : List ℕ) → list_all (λ (place : ℕ). nat_lt place width) places ≡ true → All (λ (place : ℕ). place < width) places
key_within width [] is = All-nil (λ (place : ℕ). place < width)
key_within width (place ∷ places) is =
    All-cons (λ (at : ℕ). at < width) place places (inside place width (left_true _ _ is)) (key_within width places (right_true _ _ is))
  where
    inside : (place width : ℕ) → (nat_lt place width) ≡ true → place < width
    inside place width is = grind (arith, nat_tests)
