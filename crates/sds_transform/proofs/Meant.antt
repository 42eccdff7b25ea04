-- A row becomes what the transforms that are for it make, and passes as it is where there is none.
use Rattle.std.proofs.Common.{◌≡◌, ◌≢◌, ◌∙◌, Bool, true, false, List, [], ◌∷◌, ◌++◌, map, refl, ap, sym}
use Rattle.std.specs.List.{filter, flat_map, list_any}
use Rattle.sds_value.specs.declared.row.DocRow.{DocRow}
use Rattle.sds_value.specs.declared.table.TableDef.{TableDef}
use Rattle.sds_types.specs.declared.config.Config.{Config}
use Rattle.sds_types.specs.declared.row.Change.{Change}
use Rattle.sds_types.specs.declared.transform.Add.{Add}
use Rattle.sds_types.specs.declared.transform.Point.{Point}
use Rattle.sds_types.specs.declared.transform.Point.TheVariants.{Extract}
use Rattle.sds_types.specs.declared.transform.Shaped.{Shaped}
use Rattle.sds_types.specs.declared.transform.TransformDef.{TransformDef}
use Rattle.sds_types.specs.declared.way.Way.{Way}
use Rattle.sds_trade.specs.rules.MadeRows.{made_rows}
use Rattle.sds_trade.specs.rules.Sides.{doc_of_change}
use Rattle.sds_trade.specs.rules.Transforms.{adds_of, by_transforms, extracted_rows, is_meant, shaped_by, transformed_rows, transforms_for}
use Rattle.sds_transform.specs.Made.{rows_by}

none_by : {X : Type 0} (p : X → Bool) (x : X) (xs : List X) (b : Bool) → p x ≡ b → list_any p (x ∷ xs) ≡ false → (list_any p xs ≡ false → filter p xs ≡ []) → filter p (x ∷ xs) ≡ []
none_by p x xs true e unmet rest = let h = rw e at unmet in absurd (cc)
none_by p x xs false e unmet rest = rw e (let h = rw e at unmet in rest h)

none_pass : {X : Type 0} (p : X → Bool) (xs : List X) → list_any p xs ≡ false → filter p xs ≡ []
none_pass p [] unmet = refl
none_pass p (x ∷ xs) unmet = none_by p x xs (p x) refl unmet (none_pass p xs)

some_by : {X : Type 0} (p : X → Bool) (x : X) (xs : List X) (b : Bool) → p x ≡ b → list_any p (x ∷ xs) ≡ true → (list_any p xs ≡ true → filter p xs ≢ []) → filter p (x ∷ xs) ≢ []
some_by p x xs true e some rest none = let h : x ∷ filter p xs ≡ [] = rw e at none in absurd (cc)
some_by p x xs false e some rest none = let h = rw e at some in let n = rw e at none in rest h n

some_pass : {X : Type 0} (p : X → Bool) (xs : List X) → list_any p xs ≡ true → filter p xs ≢ []
some_pass p [] some none = absurd (cc)
some_pass p (x ∷ xs) some none = some_by p x xs (p x) refl some (some_pass p xs) none

pub passes : (config : Config) (way : Way) (point : Point) (doc : DocRow) → list_any (is_meant config way point doc.table) config.transforms ≡ false
    → record { row = doc; adds = [] } ∷ [] ≡ transformed_rows config way point doc
passes config way point doc unmet = sym (ap (by_transforms config.tables way doc) (none_pass (is_meant config way point doc.table) config.transforms unmet))

by_some : (defs : List TableDef) (way : Way) (doc : DocRow) (transforms : List TransformDef) → transforms ≢ [] → flat_map (shaped_by defs way doc) transforms ≡ by_transforms defs way doc transforms
by_some defs way doc [] some = absurd (some refl)
by_some defs way doc (transform ∷ transforms) some = refl

pub is_made : (config : Config) (way : Way) (point : Point) (doc : DocRow) → list_any (is_meant config way point doc.table) config.transforms ≡ true
    → flat_map (shaped_by config.tables way doc) (transforms_for config way point doc.table) ≡ transformed_rows config way point doc
is_made config way point doc some =
    by_some config.tables way doc (transforms_for config way point doc.table) (some_pass (is_meant config way point doc.table) config.transforms some)

abbrev row_in : Shaped → DocRow
row_in made = made.row

rows_in-append : (xs ys : List Shaped) → map row_in (xs ++ ys) ≡ map row_in xs ++ map row_in ys
rows_in-append [] ys = refl
rows_in-append (x ∷ xs) ys = ap (λ rest. row_in x ∷ rest) (rows_in-append xs ys)

rows_in-shaped : (adds : List Add) (rows : List DocRow) → map row_in (map (λ (row : DocRow). record { row = row; adds = adds }) rows) ≡ rows
rows_in-shaped adds [] = refl
rows_in-shaped adds (row ∷ rows) = ap (λ rest. row ∷ rest) (rows_in-shaped adds rows)

rows_are_made : (defs : List TableDef) (way : Way) (doc : DocRow) (transforms : List TransformDef) → rows_by way doc transforms ≡ map row_in (flat_map (shaped_by defs way doc) transforms)
rows_are_made defs way doc [] = refl
rows_are_made defs way doc (transform ∷ transforms) =
    let others = rows_are_made defs way doc transforms in
    ap (λ rest. made_rows way transform doc doc.event ++ rest) others
    ∙ (ap (λ first. first ++ map row_in (flat_map (shaped_by defs way doc) transforms)) (sym (rows_in-shaped (adds_of defs transform doc) (made_rows way transform doc doc.event)))
    ∙ sym (rows_in-append (shaped_by defs way doc transform) (flat_map (shaped_by defs way doc) transforms)))

pub extracts_plain : (config : Config) (way : Way) (change : Change) (doc : DocRow) → doc ≡ doc_of_change config.tables change
    → list_any (is_meant config way Extract doc.table) config.transforms ≡ false → doc ∷ [] ≡ extracted_rows config way change
extracts_plain config way change doc is unmet =
    ap (map row_in) (passes config way Extract doc unmet) ∙ ap (λ (d : DocRow). map row_in (transformed_rows config way Extract d)) is

pub extracts_made : (config : Config) (way : Way) (change : Change) (doc : DocRow) → doc ≡ doc_of_change config.tables change
    → list_any (is_meant config way Extract doc.table) config.transforms ≡ true
    → rows_by way doc (transforms_for config way Extract doc.table) ≡ extracted_rows config way change
extracts_made config way change doc is some =
    rows_are_made config.tables way doc (transforms_for config way Extract doc.table)
    ∙ (ap (map row_in) (is_made config way Extract doc some) ∙ ap (λ (d : DocRow). map row_in (transformed_rows config way Extract d)) is)
