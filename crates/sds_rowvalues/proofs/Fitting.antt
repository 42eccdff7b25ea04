-- A row as it is put together, and the sum on a column that is added to.
use Rattle.std.proofs.Common.{◌≡◌, ◌==◌, ◌≤◌, ◌⊎◌, ℕ, true, false, Bool, List, [], ◌∷◌, ◌++◌, length, drop, get_or, map, refl, eqb, sym, ap, ◌∙◌, subst}
use Rattle.std.specs.List.{list_all, list_any, zip, enumerate_from}
use Rattle.std.proofs.lemmas.Bool.{and_parts, eqb-true}
use Rattle.std.proofs.lemmas.Option.{unwrap_or-slice_get}
use Rattle.sds_value.specs.declared.kind.Value.{Value}
use Rattle.sds_value.specs.declared.kind.Value.TheVariants.{Null}
use Rattle.sds_value.specs.declared.table.ColumnDef.{ColumnDef}
use Rattle.sds_value.specs.declared.table.TableDef.{TableDef}
use Rattle.sds_value.specs.Digits.{is_in_range}
use Rattle.sds_types.specs.declared.load_row.Addend.{Addend}
use Rattle.sds_types.specs.declared.load_row.LoadRow.{LoadRow}
use Rattle.sds_types.specs.declared.row.Row.{Row}
use Rattle.sds_trade.specs.rules.Places.{columns_at}
use Rattle.sds_trade.specs.rules.RowValues.{is_added, put_value, put_values, sum_at, sums_fit}
use Rattle.sds_trade.specs.rules.Tables.{value_at}
use Rattle.sds_rowvalues.proofs.Pairs.{made_all_placed}

by_head : (p : ℕ → Bool) (a : Addend) (adds : List Addend) (column : ℕ) (b : Bool) → eqb a.column column ≡ b → p a.column ≡ true
    → (list_any (λ (a : Addend). a.column == column) adds ≡ true → p column ≡ true) → list_any (λ (a : Addend). a.column == column) (a ∷ adds) ≡ true → p column ≡ true
by_head p a adds column true e here others some = subst (λ c. p c ≡ true) (eqb-true a.column column e) here
by_head p a adds column false e here others some = let rest = rw e at some in others rest

-- what holds of the column of each addend holds of a column that is added to
each_holds : (p : ℕ → Bool) (adds : List Addend) (column : ℕ) → list_all (λ (a : Addend). p a.column) adds ≡ true
    → list_any (λ (a : Addend). a.column == column) adds ≡ true → p column ≡ true
each_holds p [] column all some = absurd (cc)
each_holds p (a ∷ adds) column all some =
    let (here, rest) = and_parts (p a.column) (list_all (λ (a : Addend). p a.column) adds) all in
    by_head p a adds column (eqb a.column column) refl here (each_holds p adds column rest) some

-- where every sum fits, the one on a column that is added to does
pub sum_fits_at : (row : LoadRow) (values : List Value) (place : ℕ) (kept : Value) → sums_fit row values ≡ true → kept ≡ get_or values place Null
    → is_added row place ≡ true → is_in_range (sum_at row place kept) ≡ true
sum_fits_at row values place kept fits at added =
    subst (λ (v : Value). is_in_range (sum_at row place v) ≡ true) (unwrap_or-slice_get values place Null ∙ sym at)
    (each_holds (λ (column : ℕ). is_in_range (sum_at row column (value_at values column))) row.adds place fits added)

abbrev made_value : LoadRow → (ℕ × ColumnDef) × Value → Value
made_value row at = put_value row at.0 at.1

abbrev pub row_of : List Value → Row
row_of values = record { 0 = values }

-- the values of the columns before a place at which the columns or the values have ended are the row
pub row_is_put : (defs : List TableDef) (row : LoadRow) (values : List Value) (columns : List ColumnDef) (made whole : List Value) (place : ℕ)
    → columns ≡ columns_at defs row.table → whole ≡ made
    → made ++ map (λ (at : (ℕ × ColumnDef) × Value). put_value row at.0 at.1) (zip (enumerate_from place (drop place columns)) (drop place values))
    ≡ map (λ (at : (ℕ × ColumnDef) × Value). put_value row at.0 at.1) (zip (enumerate_from 0 columns) values)
    → (length columns ≤ place) ⊎ (length values ≤ place) → row_of whole ≡ put_values defs row values
row_is_put defs row values columns made whole place at is so_far past =
    ap row_of (is ∙ (made_all_placed (made_value row) made columns values place _ so_far past ∙ ap (λ cs. map (made_value row) (zip (enumerate_from 0 cs) values)) at))
