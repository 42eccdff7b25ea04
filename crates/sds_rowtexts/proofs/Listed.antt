-- One name after another is that of a column, and none of the names after it.
use Rattle.std.proofs.Common.{◌≡◌, ◌<◌, ◌+◌, ◌++◌, ◌∷◌, ◌∙◌, ◌-◌, ℕ, true, false, List, [], length, get_or, take, drop, refl, sym, ap, Some, append_assoc}
use Rattle.std.specs.Prelude.{is_some}
use Rattle.std.specs.List.{filter_map}
use Rattle.std.proofs.lemmas.List.{drop_more, take_rest}
use Rattle.std.proofs.lemmas.List.Quantifiers.{position-Some}
use Rattle.std.proofs.lemmas.Option.{slice_get-get_or}
use Rattle.std.specs.Str.{bytes_eq}
use Rattle.sds_value.specs.declared.table.ColumnDef.{ColumnDef}
use Rattle.sds_trade.specs.rules.DocRows.{are_columns}
use Rattle.sds_trade.specs.rules.Places.{column_named, column_place, is_among}

-- a name that has a place has a column
named : (columns : List ColumnDef) (name : List ℕ) (place : ℕ) → Some place ≡ column_place columns name → is_some (column_named columns name) ≡ true
named [] name place is = absurd (cc)
named (c ∷ cs) name place is =
    let found = position-Some (λ (column : ColumnDef). bytes_eq column.name name) (c ∷ cs) place c (sym is) in
    rw (← is) (rw (slice_get-get_or (c ∷ cs) place c found.0) refl)

next_name : (names : List (List ℕ)) (at : ℕ) (name : List ℕ) → at < length names → name ≡ get_or names at name → drop at names ≡ name ∷ drop (at + 1) names
next_name names at name inside is = drop_more names at name inside ∙ ap (λ first. first ∷ drop (at + 1) names) (sym is)

pub next_clean : (columns : List ColumnDef) (names : List (List ℕ)) (at : ℕ) (name : List ℕ) (place : ℕ) → at < length names → name ≡ get_or names at name
    → Some place ≡ column_place columns name → is_among (take (length names - (at + 1)) (drop (at + 1) names)) name ≡ false
    → are_columns columns (drop (at + 1) names) ≡ are_columns columns (drop at names)
next_clean columns names at name place inside is found new =
    let new' = rw (take_rest names (at + 1)) at new in
    rw (next_name names at name inside is) (rw (named columns name place found) (rw new' refl))

pub next_place : (columns : List ColumnDef) (names : List (List ℕ)) (at : ℕ) (name : List ℕ) (place : ℕ) (places : List ℕ) → at < length names → name ≡ get_or names at name
    → Some place ≡ column_place columns name
    → (places ++ place ∷ []) ++ filter_map (column_place columns) (drop (at + 1) names) ≡ places ++ filter_map (column_place columns) (drop at names)
next_place columns names at name place places inside is found =
    rw (next_name names at name inside is) (rw (← found) (append_assoc places (place ∷ []) _))
