-- Rows that are filled value by value, for the tests.
use Rattle.std.proofs.Common.{◌≡◌, ◌≢◌, Ok, Err, ℕ, ◌+◌, ◌<◌, ◌≤◌, true, false, List, [], ◌∷◌, ◌++◌, length, length-append, get_or, take, refl, ap, sym, subst, ◌∙◌, arith}
use Rattle.std.proofs.lemmas.List.{take_all, take_more}
use Rattle.std.proofs.lemmas.List.Elements.{All-nil, All-cons, All-append}
use Rattle.std.specs.Prelude.{IsTrue}
use Rattle.std.specs.List.{zip}
use Rattle.std.specs.Str.{IsUtf8, all_scalars, chars}
use Rattle.std.proofs.lemmas.Str.{scalars-chars}
use Rattle.sds_value.specs.declared.kind.Binary.{Binary}
use Rattle.sds_value.specs.declared.kind.Binary.TheVariants.{Base64}
use Rattle.sds_value.specs.declared.refusal.ValueRefusal.TheVariants.{NoMemory}
use Rattle.sds_value.specs.declared.kind.Kind.{Kind}
use Rattle.sds_value.specs.declared.kind.Kind.TheVariants as Kinds
use Rattle.sds_value.specs.declared.kind.Value.{Value}
use Rattle.sds_value.specs.declared.kind.Value.TheVariants.{Null, Integer, Decimal, Text, Stamp, Bin}
use Rattle.sds_value.specs.declared.table.ColumnDef.{ColumnDef}
use Rattle.sds_value.specs.declared.table.TableDef.{TableDef}
use Rattle.sds_value.specs.Values.{fits, value_of}
use Rattle.sds_types.specs.declared.row.TableRow.{TableRow}
use Rattle.sds_trade.specs.rules.Places.{columns_at}
use Rattle.sds_trade.specs.rules.Tables.{IsRowOf, may_hold}
use Rattle.sds_router.specs.Standing.{AreRowsOf}

-- a value of the column's kind is held, null being of none
null_fits : (kind : Kind) → fits kind Null ≡ false
null_fits Kinds.Integer = refl
null_fits (Kinds.Decimal s) = refl
null_fits (Kinds.Varchar n) = refl
null_fits Kinds.Timestamp = refl
null_fits (Kinds.Varbinary n) = refl

pub held : (column : ColumnDef) (value : Value) → IsTrue (fits column.kind value) → IsTrue (may_hold column value)
held column Null fit = let e : false ≡ true = sym (null_fits column.kind) ∙ fit in absurd (cc)
held column (Integer z) fit = fit
held column (Decimal z) fit = fit
held column (Text text) fit = fit
held column (Stamp day nano) fit = fit
held column (Bin bytes) fit = fit

zip_push : {X Y : Type 0} (xs : List X) (ys : List Y) (x : X) (y : Y) → length ys ≡ length xs
    → zip (xs ++ x ∷ []) (ys ++ y ∷ []) ≡ zip xs ys ++ (x, y) ∷ []
zip_push [] [] x y same = refl
zip_push [] (z ∷ ys) x y same = absurd (cc)
zip_push (z ∷ xs) [] x y same = absurd (cc)
zip_push (z ∷ xs) (w ∷ ys) x y same = ap (λ rest. (z, w) ∷ rest) (zip_push xs ys x y (omega arith))

row_push : (columns : List ColumnDef) (values : List Value) (column : ColumnDef) (value : Value)
    → IsRowOf columns (record { 0 = values }) → IsTrue (may_hold column value)
    → IsRowOf (columns ++ column ∷ []) (record { 0 = values ++ value ∷ [] })
row_push columns values column value row is = record {
  whole = length-append values (value ∷ []) ∙ (ap (λ n. n + 1) row.whole ∙ sym (length-append columns (column ∷ [])));
  held = rw (zip_push columns values column value row.whole)
      (All-append (λ (at : ColumnDef × Value). IsTrue (may_hold at.0 at.1)) (zip columns values) ((column, value) ∷ []) row.held
      (All-cons (λ (at : ColumnDef × Value). IsTrue (may_hold at.0 at.1)) (column, value) [] is
      (All-nil (λ (at : ColumnDef × Value). IsTrue (may_hold at.0 at.1)))));
}

-- a row of the columns up to a place, with a value for the next
pub row_more : (columns : List ColumnDef) (values : List Value) (place : ℕ) (column : ColumnDef) (value : Value) → place < length columns
    → column ≡ get_or columns place column → IsRowOf (take place columns) (record { 0 = values }) → IsTrue (may_hold column value)
    → IsRowOf (take (place + 1) columns) (record { 0 = values ++ value ∷ [] })
row_more columns values place column value within at row is =
    rw (take_more columns place column within, ← at) (row_push (take place columns) values column value row is)

pub row_end : (columns : List ColumnDef) (values : List Value) (place : ℕ) → length columns ≤ place
    → IsRowOf (take place columns) (record { 0 = values }) → IsRowOf columns (record { 0 = values })
row_end columns values place past row = subst (λ (cs : List ColumnDef). IsRowOf cs (record { 0 = values })) (take_all place columns past) row

pub rows_more : (defs : List TableDef) (rows : List TableRow) (row : TableRow) → AreRowsOf defs rows
    → IsRowOf (columns_at defs row.table) row.row → AreRowsOf defs (rows ++ row ∷ [])
rows_more defs rows row are is = All-append (λ (row : TableRow). IsRowOf (columns_at defs row.table) row.row) rows (row ∷ []) are
    (All-cons (λ (row : TableRow). IsRowOf (columns_at defs row.table) row.row) row [] is
    (All-nil (λ (row : TableRow). IsRowOf (columns_at defs row.table) row.row)))

-- what a text is read as fits its kind, by the law of the values
pub reads : (kind : Kind) (bytes : List ℕ) (value : Value)
    → ((kind : Kind) (form : Binary) (text : List ℕ) (value : Value) → IsTrue (all_scalars text) → value_of kind form text ≡ Ok value → IsTrue (fits kind value))
    → IsUtf8 bytes → (Ok value ≢ Err NoMemory → Ok value ≡ value_of kind Base64 (chars bytes)) → IsTrue (fits kind value)
reads kind bytes value law utf8 is =
    law kind Base64 (chars bytes) value (scalars-chars bytes utf8) (sym (is (λ (e : Ok value ≡ Err NoMemory). absurd (cc))))
