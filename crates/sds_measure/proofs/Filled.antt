-- Rows that are filled value by value, and lists that are filled one by one.
use Rattle.std.proofs.Common.{◌≡◌, ◌≢◌, Ok, Err, ℕ, ◌+◌, ◌<◌, ◌≤◌, ◌||◌, true, false, Bool, List, [], ◌∷◌, ◌++◌, length, length-append, get_or, take, refl, ap, sym, subst, ◌∙◌, arith}
use Rattle.std.proofs.lemmas.List.{take_all, take_more}
use Rattle.std.proofs.lemmas.List.Elements.{All-nil, All-cons, All-append}
use Rattle.std.proofs.lemmas.Str.{scalars-chars}
use Rattle.std.specs.Prelude.{IsTrue}
use Rattle.std.specs.List.{All, AllPairs, zip}
use Rattle.std.specs.Str.{IsUtf8, all_scalars, chars}
use Rattle.sds_value.specs.declared.kind.Binary.{Binary}
use Rattle.sds_value.specs.declared.kind.Binary.TheVariants.{Base64}
use Rattle.sds_value.specs.declared.kind.Kind.{Kind}
use Rattle.sds_value.specs.declared.kind.Value.{Value}
use Rattle.sds_value.specs.declared.refusal.ValueRefusal.TheVariants.{NoMemory}
use Rattle.sds_value.specs.declared.table.ColumnDef.{ColumnDef}
use Rattle.sds_value.specs.declared.table.TableDef.{TableDef}
use Rattle.sds_value.specs.Values.{fits, value_of}
use Rattle.sds_types.specs.declared.row.Change.{Change}
use Rattle.sds_trade.specs.rules.Fitting.{FitColumns, Suits}
use Rattle.sds_trade.specs.rules.Tables.{is_null}
use Rattle.sds_measure.specs.Fitting.{Fits}

-- what a text is read as fits its kind, by the law of the values
pub reads : (kind : Kind) (bytes : List ℕ) (value : Value)
    → ((kind : Kind) (form : Binary) (text : List ℕ) (value : Value) → IsTrue (all_scalars text) → value_of kind form text ≡ Ok value → IsTrue (fits kind value))
    → IsUtf8 bytes → (Ok value ≢ Err NoMemory → Ok value ≡ value_of kind Base64 (chars bytes)) → IsTrue (fits kind value)
reads kind bytes value law utf8 is =
    law kind Base64 (chars bytes) value (scalars-chars bytes utf8) (sym (is (λ (e : Ok value ≡ Err NoMemory). absurd (cc))))

or_right : (a b : Bool) → b ≡ true → (a || b) ≡ true
or_right true b is = refl
or_right false b is = is

pub suits : (kind : Kind) (value : Value) → IsTrue (fits kind value) → IsTrue (is_null value || fits kind value)
suits kind value fit = or_right (is_null value) (fits kind value) fit

zip_push : {X Y : Type 0} (xs : List X) (ys : List Y) (x : X) (y : Y) → length ys ≡ length xs
    → zip (xs ++ x ∷ []) (ys ++ y ∷ []) ≡ zip xs ys ++ (x, y) ∷ []
zip_push [] [] x y same = refl
zip_push [] (z ∷ ys) x y same = absurd (cc)
zip_push (z ∷ xs) [] x y same = absurd (cc)
zip_push (z ∷ xs) (w ∷ ys) x y same = ap (λ rest. (z, w) ∷ rest) (zip_push xs ys x y (omega arith))

row_push : (columns : List ColumnDef) (values : List Value) (column : ColumnDef) (value : Value)
    → FitColumns columns values → Suits (column, value) → FitColumns (columns ++ column ∷ []) (values ++ value ∷ [])
row_push columns values column value fit is = record {
  whole = length-append values (value ∷ []) ∙ (ap (λ n. n + 1) fit.whole ∙ sym (length-append columns (column ∷ [])));
  each = rw (zip_push columns values column value fit.whole)
      (All-append Suits (zip columns values) ((column, value) ∷ []) fit.each (All-cons Suits (column, value) [] is (All-nil Suits)));
}

-- values that fit the columns up to a place, with one for the next
pub row_more : (columns : List ColumnDef) (values : List Value) (place : ℕ) (column : ColumnDef) (value : Value) → place < length columns
    → column ≡ get_or columns place column → FitColumns (take place columns) values → IsTrue (fits column.kind value)
    → FitColumns (take (place + 1) columns) (values ++ value ∷ [])
row_more columns values place column value within at fit is =
    rw (take_more columns place column within, ← at) (row_push (take place columns) values column value fit (suits column.kind value is))

pub row_end : (columns : List ColumnDef) (values : List Value) (place : ℕ) → length columns ≤ place
    → FitColumns (take place columns) values → FitColumns columns values
row_end columns values place past fit = subst (λ (cs : List ColumnDef). FitColumns cs values) (take_all place columns past) fit

-- one more change, and the places of one more
pub change_more : (defs : List TableDef) (changes : List Change) (change : Change) → All (Fits defs) changes → Fits defs change
    → All (Fits defs) (changes ++ change ∷ [])
change_more defs changes change are is =
    All-append (Fits defs) changes (change ∷ []) are (All-cons (Fits defs) change [] is (All-nil (Fits defs)))

pub places_more : (lists : List (List ℕ)) (places : List ℕ) → All (AllPairs (λ (a b : ℕ). a < b)) lists
    → AllPairs (λ (a b : ℕ). a < b) places → All (AllPairs (λ (a b : ℕ). a < b)) (lists ++ places ∷ [])
places_more lists places are is = All-append (AllPairs (λ (a b : ℕ). a < b)) lists (places ∷ []) are
    (All-cons (AllPairs (λ (a b : ℕ). a < b)) places [] is (All-nil (AllPairs (λ (a b : ℕ). a < b))))
