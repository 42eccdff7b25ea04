-- Fields beside the places of their columns are read as beside their names.
use Rattle.std.proofs.Common.{◌≡◌, ◌∙◌, ◌++◌, ◌||◌, ℕ, Bool, true, false, List, [], ◌∷◌, map, refl, sym, ap, Option, Some, None}
use Rattle.std.specs.Prelude.{is_some, option_map}
use Rattle.std.specs.List.{filter_map, list_any, zip}
use Rattle.std.specs.Option.{option_map_or}
use Rattle.std.proofs.lemmas.Bool.{and_parts}
use Rattle.sds_value.specs.declared.kind.Binary.{Binary}
use Rattle.sds_value.specs.declared.refusal.ValueRefusal.{ValueRefusal}
use Rattle.sds_value.specs.declared.row.DocRow.{DocRow}
use Rattle.sds_value.specs.declared.row.Field.{Field}
use Rattle.sds_value.specs.declared.table.ColumnDef.{ColumnDef}
use Rattle.sds_trade.specs.rules.DocRows.{are_columns}
use Rattle.sds_trade.specs.rules.LoadRows.{values_in}
use Rattle.sds_trade.specs.rules.Places.{column_named, column_place}
use Rattle.sds_trade.specs.rules.TextRules.{all_fields, refusal_in, refusals_in}
use Rattle.sds_rowtexts.specs.Placed.{is_one, is_refused, placed_value}

-- the reasons among those that there are
any_by : {X : Type 0} (test : ValueRefusal → Bool) (f : X → Option ValueRefusal) (x : X) (xs : List X) (o : Option ValueRefusal) → f x ≡ o
    → list_any test (filter_map f xs) ≡ list_any (λ (x : X). is_one test (f x)) xs
    → list_any test (filter_map f (x ∷ xs)) ≡ list_any (λ (x : X). is_one test (f x)) (x ∷ xs)
any_by test f x xs None e rest = rw e rest
any_by test f x xs (Some why) e rest = rw e (ap (λ (b : Bool). test why || b) rest)

any_reason : {X : Type 0} (test : ValueRefusal → Bool) (f : X → Option ValueRefusal) (xs : List X) → list_any test (filter_map f xs) ≡ list_any (λ (x : X). is_one test (f x)) xs
any_reason test f [] = refl
any_reason test f (x ∷ xs) = any_by test f x xs (f x) refl (any_reason test f xs)

value_by : (form : Binary) (columns : List ColumnDef) (name : List ℕ) (names : List (List ℕ)) (field : Field) (fields : List Field) (o : Option ℕ) → column_place columns name ≡ o
    → is_some (column_named columns name) ≡ true
    → map (placed_value form columns) (zip (filter_map (column_place columns) names) fields) ≡ values_in form columns names fields
    → map (placed_value form columns) (zip (filter_map (column_place columns) (name ∷ names)) (field ∷ fields)) ≡ values_in form columns (name ∷ names) (field ∷ fields)
value_by form columns name names field fields None e known rest = let none = rw e at known in absurd (cc)
value_by form columns name names field fields (Some place) e known rest = rw e (ap (λ values. placed_value form columns (place, field) ∷ values) rest)

no_fields : (form : Binary) (columns : List ColumnDef) (places : List ℕ) → map (placed_value form columns) (zip places []) ≡ []
no_fields form columns [] = refl
no_fields form columns (place ∷ places) = refl

pub placed_values : (form : Binary) (columns : List ColumnDef) (names : List (List ℕ)) (fields : List Field) → are_columns columns names ≡ true
    → map (placed_value form columns) (zip (filter_map (column_place columns) names) fields) ≡ values_in form columns names fields
placed_values form columns [] fields known = refl
placed_values form columns (name ∷ names) [] known = no_fields form columns (filter_map (column_place columns) (name ∷ names))
placed_values form columns (name ∷ names) (field ∷ fields) known =
    let parts = and_parts _ _ known in
    let others = and_parts _ _ parts.1 in
    value_by form columns name names field fields (column_place columns name) refl parts.0 (placed_values form columns names fields others.1)

abbrev is_named_refused : (ValueRefusal → Bool) → Binary → List ColumnDef → List ℕ × Field → Bool
is_named_refused test form columns at = is_one test (refusal_in form columns at)

refused_by : (test : ValueRefusal → Bool) (form : Binary) (columns : List ColumnDef) (name : List ℕ) (names : List (List ℕ)) (field : Field) (fields : List Field) (o : Option ℕ)
    → column_place columns name ≡ o → is_some (column_named columns name) ≡ true
    → list_any (is_refused test form columns) (zip (filter_map (column_place columns) names) fields) ≡ list_any (is_named_refused test form columns) (zip names fields)
    → list_any (is_refused test form columns) (zip (filter_map (column_place columns) (name ∷ names)) (field ∷ fields)) ≡ list_any (is_named_refused test form columns) (zip (name ∷ names) (field ∷ fields))
refused_by test form columns name names field fields None e known rest = let none = rw e at known in absurd (cc)
refused_by test form columns name names field fields (Some place) e known rest = rw e (ap (λ (others : Bool). is_refused test form columns (place, field) || others) rest)

none_refused : (test : ValueRefusal → Bool) (form : Binary) (columns : List ColumnDef) (places : List ℕ) → list_any (is_refused test form columns) (zip places []) ≡ false
none_refused test form columns [] = refl
none_refused test form columns (place ∷ places) = refl

refused : (test : ValueRefusal → Bool) (form : Binary) (columns : List ColumnDef) (names : List (List ℕ)) (fields : List Field) → are_columns columns names ≡ true
    → list_any (is_refused test form columns) (zip (filter_map (column_place columns) names) fields) ≡ list_any (is_named_refused test form columns) (zip names fields)
refused test form columns [] fields known = refl
refused test form columns (name ∷ names) [] known = none_refused test form columns (filter_map (column_place columns) (name ∷ names))
refused test form columns (name ∷ names) (field ∷ fields) known =
    let parts = and_parts _ _ known in
    let others = and_parts _ _ parts.1 in
    refused_by test form columns name names field fields (column_place columns name) refl parts.0 (refused test form columns names fields others.1)

refused_old : (test : ValueRefusal → Bool) (form : Binary) (columns : List ColumnDef) (names : List (List ℕ)) (old : Option (List Field)) → are_columns columns names ≡ true
    → list_any (is_refused test form columns) (option_map_or (zip (filter_map (column_place columns) names)) old []) ≡ list_any (is_named_refused test form columns) (option_map_or (zip names) old [])
refused_old test form columns names None known = refl
refused_old test form columns names (Some fields) known = refused test form columns names fields known

or_assoc : (a b c : Bool) → ((a || b) || c) ≡ (a || (b || c))
or_assoc true b c = refl
or_assoc false b c = refl

any_append : {X : Type 0} (test : X → Bool) (xs ys : List X) → list_any test (xs ++ ys) ≡ (list_any test xs || list_any test ys)
any_append test [] ys = refl
any_append test (x ∷ xs) ys = rw (any_append test xs ys) (sym (or_assoc (test x) (list_any test xs) (list_any test ys)))

-- the texts of the key, of the new values and of the old ones are all the texts of a row
pub all_refused : (test : ValueRefusal → Bool) (form : Binary) (columns : List ColumnDef) (row : DocRow) (a b c : Bool) → are_columns columns row.keys ≡ true → are_columns columns row.columns ≡ true
    → a ≡ list_any (is_refused test form columns) (zip (filter_map (column_place columns) row.keys) row.key)
    → b ≡ (a || list_any (is_refused test form columns) (zip (filter_map (column_place columns) row.columns) row.new))
    → c ≡ (b || list_any (is_refused test form columns) (option_map_or (zip (filter_map (column_place columns) row.columns)) row.old []))
    → c ≡ list_any test (refusals_in form columns row)
all_refused test form columns row a b c keys names is_a is_b is_c =
    let g = is_named_refused test form columns in
    let key = refused test form columns row.keys row.key keys in
    let new = refused test form columns row.columns row.new names in
    let old = refused_old test form columns row.columns row.old names in
    is_c ∙ rw (is_b, is_a, key, new, old)
    (or_assoc (list_any g (zip row.keys row.key)) (list_any g (zip row.columns row.new)) (list_any g (option_map_or (zip row.columns) row.old []))
    ∙ sym (any_reason test (refusal_in form columns) (all_fields row)
    ∙ (any_append g (zip row.keys row.key) (zip row.columns row.new ++ option_map_or (zip row.columns) row.old [])
    ∙ ap (λ (others : Bool). list_any g (zip row.keys row.key) || others) (any_append g (zip row.columns row.new) (option_map_or (zip row.columns) row.old [])))))

pub placed_old : (form : Binary) (columns : List ColumnDef) (names : List (List ℕ)) (old : Option (List Field)) → are_columns columns names ≡ true
    → option_map (λ (fields : List Field). map (placed_value form columns) (zip (filter_map (column_place columns) names) fields)) old ≡ option_map (values_in form columns names) old
placed_old form columns names None known = refl
placed_old form columns names (Some fields) known = ap Some (placed_values form columns names fields known)
