-- A row that is updated in its place.
use Rattle.std.proofs.Common.{◌≡◌, ℕ, ◌≤◌, List, [], ◌∷◌, ◌++◌, length, take, drop, get_or, refl, sym, ap, ◌∙◌, suc, zero}
use Rattle.std.specs.Prelude.{slice_set}
use Rattle.std.proofs.lemmas.List.{drop_all, take-append-drop}
use Rattle.sds_value.specs.declared.kind.Value.{Value}
use Rattle.sds_types.specs.declared.row.TableRow.{TableRow}
use Rattle.sds_first_spec.specs.One.{one}
use Rattle.sds_first_spec.specs.Tables.{key_of}
use Rattle.sds_first_node.specs.Loaded.{overwritten, updated, with_row, IsRowAt}

set_twice : (rows : List TableRow) (i : ℕ) (a b : TableRow) → slice_set (slice_set rows i a) i b ≡ slice_set rows i b
set_twice [] i a b = refl
set_twice (x ∷ rows) zero a b = refl
set_twice (x ∷ rows) (suc i) a b = ap (λ (xs : List TableRow). x ∷ xs) (set_twice rows i a b)

-- the row at a place, taken out, updated and put back
pub row_updated : (row : TableRow) (rows seen : List TableRow) (i : ℕ) (found kept blank new : TableRow) → IsRowAt (key_of one 0 row.row) seen i → seen ≡ rows
    → found ≡ get_or rows i found → kept ≡ found → new ≡ updated row kept → slice_set (slice_set rows i blank) i new ≡ with_row row rows
row_updated row rows seen i found kept blank new place same at was is =
    let item : kept ≡ get_or seen i kept = rw (was, same) at in
    set_twice rows i blank new ∙ (rw is (rw (← same) (sym (place.put row kept refl item))))

none_over : (new : List Value) → overwritten new [] ≡ []
none_over [] = refl
none_over (value ∷ new) = refl

-- nothing is left of the row that stands
pub overwritten_all : (i : ℕ) (kept new whole : List Value) → length kept ≤ i → take i kept ++ overwritten (drop i new) (drop i kept) ≡ whole → kept ≡ whole
overwritten_all i kept new whole past so_far =
    let none : drop i kept ≡ [] = drop_all i kept past in
    let front : take i kept ++ drop i kept ≡ kept = take-append-drop i kept in
    sym front ∙ (rw none (sym (ap (λ (vs : List Value). take i kept ++ vs) (none_over (drop i new)))) ∙ rw none at so_far)
