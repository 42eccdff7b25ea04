-- The names of a table put into a list of tables' names.
use Rattle.std.proofs.Common.{◌≡◌, ℕ, ◌+◌, ◌<◌, Bool, true, false, List, [], ◌∷◌, ◌++◌, length, refl, sym, ◌∙◌, add-one, arith, Some, if◌then◌else◌}
use Rattle.std.proofs.lemmas.Slice.Eq.{bytes_eq-Decides}
use Rattle.std.specs.Prelude.{slice_set}
use Rattle.std.specs.Str.{bytes_eq}
use Rattle.sds_batchtext.specs.declared.table_names.TableNames.{TableNames}
use Rattle.sds_batchtext.specs.Entries.{place_of}
use Rattle.sds_batchtext.specs.Positions.{names_at}

skip : {A : Type 0} (b : Bool) (x y z : A) → (if b then x else z) ≡ (if b then x else (if b then y else z))
skip true x y z = refl
skip false x y z = refl

swap : {A : Type 0} (a b : Bool) (x y z : A) → (a ≡ true → b ≡ true → ⊥) → (if a then x else (if b then y else z)) ≡ (if b then y else (if a then x else z))
swap true true x y z apart = absurd (apart refl refl)
swap true false x y z apart = refl
swap false b x y z apart = refl

-- a text that is one of two that differ is not the other
apart : (a b other : List ℕ) → bytes_eq a b ≡ false → bytes_eq a other ≡ true → bytes_eq b other ≡ true → ⊥
apart a b other differ first second =
    let same : a ≡ b = (bytes_eq-Decides a other).0 first ∙ sym ((bytes_eq-Decides b other).0 second) in
    let yes_too : bytes_eq a b ≡ true = (bytes_eq-Decides a b).1 same in absurd (cc)

abbrev entry_of : List ℕ → List (List ℕ) → TableNames
entry_of table names = record { table = table; names = names }

pub set_names : (table : List ℕ) (names : List (List ℕ)) (entries : List TableNames) (other : List ℕ) → place_of table entries < length entries
    → names_at other (slice_set entries (place_of table entries) (record { table = table; names = names })) ≡ (if bytes_eq table other then Some names else names_at other entries)
set_names table names [] other inside = absurd (omega arith)
set_names table names (e ∷ es) other inside = by (λ less. set_names table names es other less) (bytes_eq e.table table) refl
  where
    by : (place_of table es < length es → names_at other (slice_set es (place_of table es) (entry_of table names)) ≡ (if bytes_eq table other then Some names else names_at other es))
        → (b : Bool) → bytes_eq e.table table ≡ b
        → names_at other (slice_set (e ∷ es) (place_of table (e ∷ es)) (entry_of table names)) ≡ (if bytes_eq table other then Some names else names_at other (e ∷ es))
    by later true is = rw (is, (bytes_eq-Decides e.table table).0 is) (skip (bytes_eq table other) (Some names) (Some e.names) (names_at other es))
    by later false is =
        let less : place_of table es + 1 < length (e ∷ es) = rw is at inside in
        rw (is, add-one, later (omega arith))
        (swap (bytes_eq e.table other) (bytes_eq table other) (Some e.names) (Some names) (names_at other es) (apart e.table table other is))

pub push_names : (table : List ℕ) (names : List (List ℕ)) (entries : List TableNames) (other : List ℕ) → (place_of table entries < length entries → ⊥)
    → names_at other (entries ++ (record { table = table; names = names }) ∷ []) ≡ (if bytes_eq table other then Some names else names_at other entries)
push_names table names [] other outside = refl
push_names table names (e ∷ es) other outside = by (λ more. push_names table names es other more) (bytes_eq e.table table) refl
  where
    by : ((place_of table es < length es → ⊥) → names_at other (es ++ (entry_of table names) ∷ []) ≡ (if bytes_eq table other then Some names else names_at other es))
        → (b : Bool) → bytes_eq e.table table ≡ b
        → names_at other ((e ∷ es) ++ (entry_of table names) ∷ []) ≡ (if bytes_eq table other then Some names else names_at other (e ∷ es))
    by later true is = let first : place_of table (e ∷ es) ≡ 0 = rw is refl in absurd (outside (omega arith))
    by later false is =
        let next : place_of table (e ∷ es) ≡ place_of table es + 1 = rw is refl in
        rw (later (λ less. outside (omega arith)))
        (swap (bytes_eq e.table other) (bytes_eq table other) (Some e.names) (Some names) (names_at other es) (apart e.table table other is))
