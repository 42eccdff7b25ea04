-- Under a sound configuration each transform that is for a row is ready to make rows of it.
use Rattle.std.proofs.Common.{◌≡◌, ◌≢◌, ℕ, zero, suc, ◌+◌, ◌<◌, ◌≤◌, Bool, true, false, not, ◌&&◌, ◌||◌, List, [], ◌∷◌, length, map, Option, None, Some, option_and_then, get_or, refl, sym, ap, subst, ◌∙◌, arith, true≢false, cond, All, AllPairs, filter}
use Rattle.std.proofs.lemmas.List.Elements.{All-nil, All-cons}
use Rattle.std.proofs.lemmas.List.Kept.{AllPairs-filter}
use Rattle.std.proofs.lemmas.List.Quantifiers.{position-Some}
use Rattle.std.proofs.lemmas.Option.{get_or_from_slice_get}
use Rattle.std.proofs.lemmas.List.Sums.{sum_by-cons}
use Rattle.std.specs.List.{count_by, list_any}
use Rattle.std.specs.Option.{option_map_or}
use Rattle.std.specs.Prelude.{IsSomeAnd, slice_get}
use Rattle.std.specs.Str.{all_scalars, bytes_eq}
use Rattle.sds_value.specs.declared.row.DocRow.{DocRow}
use Rattle.sds_value.specs.declared.table.ColumnDef.{ColumnDef}
use Rattle.sds_value.specs.declared.table.TableDef.{TableDef}
use Rattle.sds_types.specs.declared.config.Config.{Config}
use Rattle.sds_types.specs.declared.row.Change.{Change}
use Rattle.sds_types.specs.declared.transform.ColumnPolicy.{ColumnPolicy}
use Rattle.sds_types.specs.declared.transform.ColumnPolicy.TheVariants.{Specified, Implied}
use Rattle.sds_types.specs.declared.transform.Point.{Point}
use Rattle.sds_types.specs.declared.transform.Point.TheVariants.{Extract, Load}
use Rattle.sds_types.specs.declared.transform.TransformDef.{TransformDef}
use Rattle.sds_types.specs.declared.transform_column.TransformColumn.{TransformColumn}
use Rattle.sds_types.specs.declared.way.Way.{Way}
use Rattle.sds_trade.specs.rules.ColumnFunctions.{has_letter, is_additive, is_all_events, is_delete, is_remove, letter_of, takes_part}
use Rattle.sds_trade.specs.rules.MadeRows.{active_columns}
use Rattle.sds_trade.specs.rules.MadeSides.{column_for, is_implied}
use Rattle.sds_trade.specs.rules.Places.{column_name, columns_at, group_name, key_places, table_named, table_place}
use Rattle.sds_trade.specs.rules.Sides.{doc_of_change}
use Rattle.sds_trade.specs.rules.Sound.{IsSound}
use Rattle.sds_trade.specs.rules.Transforms.{is_meant, is_point}
use Rattle.sds_trade.specs.sound.TransformColumns.{IsTransformColumn, clash}
use Rattle.sds_trade.specs.sound.Tables.{IsKey}
use Rattle.sds_trade.specs.sound.Transforms.{FitsTable, IsTransform, has_key, is_pk, key_remains, removes_column}
use Rattle.sds_trade.proofs.Lists.{pairs_head, pairs_tail}
use Rattle.sds_history.specs.history.SoundParts.{IsChange}
use Rattle.sds_nodelaws.proofs.Held.{mapped}
use Rattle.sds_nodelaws.proofs.Items.{equal}
use Rattle.sds_nodelaws.proofs.Lists.Either.{left, right}
use Rattle.sds_nodelaws.proofs.Lists.{In, and_both, and_left, and_right, any_gives, filter_all, find_all, find_passes, in_all, in_map, no_some, same_some, slice_all}
use Rattle.sds_nodelaws.proofs.Tests.{or_cases, or_left}
use Rattle.sds_doclaws.specs.Writable.{HasFewKeys, IsOfCharacters, is_for_key}
use Rattle.sds_doclaws.proofs.Expressions.{made_fits}
use Rattle.sds_doclaws.proofs.Keys.{HasKey, StarredKey, all_events, in_kept}
use Rattle.sds_doclaws.proofs.Keys.HasKey.{listed, remains}
use Rattle.sds_doclaws.proofs.Made.{IsReady}
use Rattle.sds_doclaws.proofs.Plain.{Stands, stands}
use Rattle.sds_doclaws.proofs.Rows.{IsName}
use Rattle.sds_doclaws.proofs.Sides.{IsColumn, is_for, kept}
use Rattle.sds_doclaws.proofs.Sums.{filter_few}

-- TABLES have names of their own
abbrev OtherName : TableDef → TableDef → Type 0
OtherName a b = a.name ≢ b.name

one_table : (defs : List TableDef) (p q : ℕ) (a b : TableDef) → AllPairs OtherName defs → slice_get defs p ≡ Some a → slice_get defs q ≡ Some b
    → a.name ≡ b.name → a ≡ b
one_table [] p q a b apart first second same = no_some a first
one_table (c ∷ cs) zero zero a b apart first second same = sym (same_some c a first) ∙ same_some c b second
one_table (c ∷ cs) zero (suc q) a b apart first second same =
    absurd (slice_all (OtherName c) cs q b (pairs_head OtherName c cs apart) second (ap (λ (d : TableDef). d.name) (same_some c a first) ∙ same))
one_table (c ∷ cs) (suc p) zero a b apart first second same =
    absurd (slice_all (OtherName c) cs p a (pairs_head OtherName c cs apart) first (ap (λ (d : TableDef). d.name) (same_some c b second) ∙ sym same))
one_table (c ∷ cs) (suc p) (suc q) a b apart first second same = one_table cs p q a b (pairs_tail OtherName c cs apart) first second same

-- so what holds of the table of a name holds of the one that has it
by_name : (P : TableDef → Type 0) (defs : List TableDef) (name : List ℕ) (place : ℕ) (def : TableDef) → AllPairs OtherName defs → slice_get defs place ≡ Some def
    → name ≡ def.name → IsSomeAnd (table_named defs name) P → P def
by_name P defs name place def apart there same fits = by_place (table_place defs name) refl fits
  where
    by_def : (p : ℕ) → table_place defs name ≡ Some p → (found : Option TableDef) → slice_get defs p ≡ found → IsSomeAnd found P → P def
    by_def p is None at fit = absurd fit
    by_def p is (Some other) at fit =
        let passes = (position-Some (λ (d : TableDef). bytes_eq d.name name) defs p other is).1 in
        let named : other.name ≡ name = ap (λ (d : TableDef). d.name) (sym (get_or_from_slice_get defs p other other at)) ∙ equal (get_or defs p other).name name passes in
        subst P (one_table defs p place other def apart at there (named ∙ same)) fit

    by_place : (o : Option ℕ) → table_place defs name ≡ o → IsSomeAnd (option_and_then (slice_get defs) o) P → P def
    by_place None is fit = absurd fit
    by_place (Some p) is fit = by_def p is (slice_get defs p) refl fit

-- TESTS
point_is : (point : Point) → is_point point Extract ≡ true → point ≡ Extract
point_is Extract is = refl
point_is Load is = absurd (true≢false (sym is))

policy_is : (policy : ColumnPolicy) → is_implied policy ≡ true → policy ≡ Implied
policy_is Implied is = refl
policy_is Specified is = absurd (true≢false (sym is))

not_true_is : (b : Bool) → not b ≡ true → b ≡ false
not_true_is true is = absurd (true≢false (sym is))
not_true_is false is = refl

none_any : {X : Type 0} (p : X → Bool) (xs : List X) → list_any p xs ≡ false → All (λ x. p x ≡ false) xs
none_any p [] none = All-nil (λ x. p x ≡ false)
none_any {X} p (x ∷ xs) none = on (p x) refl none (λ rest. none_any p xs rest)
  where
    on : (b : Bool) → p x ≡ b → (b || list_any p xs) ≡ false → (list_any p xs ≡ false → All (λ y. p y ≡ false) xs) → All (λ (y : X). p y ≡ false) (x ∷ xs)
    on true is none rest = absurd (true≢false none)
    on false is none rest = All-cons (λ (y : X). p y ≡ false) x xs is (rest none)

in_slice : {X : Type 0} (xs : List X) (place : ℕ) (x : X) → slice_get xs place ≡ Some x → In x xs
in_slice [] place x is = no_some x is
in_slice (y ∷ ys) zero x is = left (sym (same_some y x is))
in_slice (y ∷ ys) (suc place) x is = right (in_slice ys place x is)

members : {X : Type 0} (P : X → Type 0) (xs : List X) → All P xs → All (λ x. In x xs × P x) xs
members {X} P xs are = λ k d within. (in_all (λ (x : X). In x xs) xs (λ x is. is) k d within, are k d within)

filter_inner : {X : Type 0} (p q : X → Bool) (xs : List X) → length (filter p (filter q xs)) ≤ length (filter p xs)
filter_inner p q [] = omega arith
filter_inner {X} p q (x ∷ xs) = on (q x) (p x) refl (filter_inner p q xs)
  where
    on : (b c : Bool) → p x ≡ c → length (filter p (filter q xs)) ≤ length (filter p xs)
        → length (filter p (cond b (x ∷ filter q xs) (filter q xs))) ≤ length (cond c (x ∷ filter p xs) (filter p xs))
    on true true is less = subst (λ (d : Bool). length (cond d (x ∷ filter p (filter q xs)) (filter p (filter q xs))) ≤ suc (length (filter p xs))) (sym is) (omega (arith, less))
    on true false is less = subst (λ (d : Bool). length (cond d (x ∷ filter p (filter q xs)) (filter p (filter q xs))) ≤ length (filter p xs)) (sym is) less
    on false true is less = omega (arith, less)
    on false false is less = less

count_filter : {X : Type 0} (p : X → Bool) (xs : List X) → count_by p xs ≡ length (filter p xs)
count_filter p [] = refl
count_filter {X} p (x ∷ xs) = sum_by-cons (λ (y : X). cond (p y) 1 0) x xs ∙ on (p x) (count_filter p xs)
  where
    on : (b : Bool) → count_by p xs ≡ length (filter p xs) → cond b 1 0 + count_by p xs ≡ length (cond b (x ∷ filter p xs) (filter p xs))
    on true same = omega (arith, same)
    on false same = omega (arith, same)

-- COLUMNS that take part
record IsOwn (transform : TransformDef) (def : TableDef) : Type 0 where
  each : All (IsTransformColumn Extract transform.column_policy def) transform.columns
  keyed : has_key Extract transform.column_policy def transform.columns ≡ true
  pks : length (filter is_pk transform.columns) ≤ 32

own_by : (transform : TransformDef) (def : TableDef) → transform.point ≡ Extract → FitsTable transform def → IsOwn transform def
own_by transform def is fits = record {
  each = subst (λ (p : Point). All (IsTransformColumn p transform.column_policy def) transform.columns) is fits.each;
  keyed = subst (λ (p : Point). has_key p transform.column_policy def transform.columns ≡ true) is fits.keyed;
  pks = subst (λ (n : ℕ). n ≤ 32) (count_filter is_pk transform.columns) fits.keys;
}

no_addition : (c : TransformColumn) (b : Bool) → is_additive c.kind ≡ b → (is_additive c.kind ≡ true → c.pk ≡ false) → c.pk ≡ true → is_additive c.kind ≡ false
no_addition c true is adds pk = absurd (true≢false (sym pk ∙ adds is))
no_addition c false is adds pk = is

key_takes_part : {policy : ColumnPolicy} {def : TableDef} (doc : DocRow) (c : TransformColumn) → IsTransformColumn Extract policy def c → c.pk ≡ true
    → takes_part doc.event c ≡ true
key_takes_part doc c is pk =
    and_both (is_all_events c.include_on || has_letter c.include_on (letter_of doc.event)) (not (is_additive c.kind && is_delete doc.event))
    (or_left (is_all_events c.include_on) (has_letter c.include_on (letter_of doc.event)) (all_events c.include_on (is.key_events pk)))
    (ap (λ (b : Bool). not (b && is_delete doc.event)) (no_addition c (is_additive c.kind) refl is.adds_no_key pk))

-- a key of the source that no column removes stays
stays : (columns : List TransformColumn) (doc : DocRow) (name : List ℕ) → list_any (removes_column name) columns ≡ false
    → kept (column_for (filter (takes_part doc.event) columns) name) ≡ 1
stays columns doc name none = on (column_for (filter (takes_part doc.event) columns) name) refl
  where
    removes : (c : TransformColumn) (b : Bool) → is_remove c.kind ≡ b → (is_remove c.kind && bytes_eq c.target name) ≡ false → bytes_eq c.target name ≡ true
        → is_remove c.kind ≡ false
    removes c true is both same = absurd (true≢false (sym (and_both (is_remove c.kind) (bytes_eq c.target name) is same) ∙ both))
    removes c false is both same = is

    on : (found : Option TransformColumn) → column_for (filter (takes_part doc.event) columns) name ≡ found → kept found ≡ 1
    on None is = refl
    on (Some c) is =
        let same = find_passes (λ (d : TransformColumn). bytes_eq d.target name) (filter (takes_part doc.event) columns) c is in
        let both = find_all (λ (d : TransformColumn). removes_column name d ≡ false) (λ (d : TransformColumn). bytes_eq d.target name) (filter (takes_part doc.event) columns) c
        (filter_all (λ (d : TransformColumn). removes_column name d ≡ false) (takes_part doc.event) columns (none_any (removes_column name) columns none)) is in
        ap (λ (b : Bool). elim (not b) as (λ x. ℕ) [ true ↦ 1 | false ↦ 0 ]) (removes c (is_remove c.kind) refl both same)

-- A TRANSFORM for the row of a change
pub ready : (config : Config) (change : Change) (way : Way) (transform : TransformDef) → IsSound config → IsChange config change → IsName way.source → IsName way.target
    → IsTransform config transform → IsOfCharacters transform → HasFewKeys config transform
    → is_meant config way Extract (doc_of_change config.tables change).table transform ≡ true
    → IsReady way transform (doc_of_change config.tables change)
ready config change way transform sound is from to fits texts few meant = record {
  target = fits.target_name;
  columns = record {
    are = filter_all (IsColumn way) (takes_part doc.event) transform.columns
        (λ k d within. column_is (get_or transform.columns k d) (own.each k d within) (texts k d within));
    few = at_most (length active) (length transform.columns) 64 (filter_few (takes_part doc.event) transform.columns) fits.few;
    few_pks = at_most (length (filter is_pk active)) (length (filter is_pk transform.columns)) 32 (filter_inner is_pk (takes_part doc.event) transform.columns) own.pks;
    few_keys = λ implied. at_most (length (filter (is_for doc.keys) active)) (length (filter (is_for doc.keys) transform.columns)) 61
        (filter_inner (is_for doc.keys) (takes_part doc.event) transform.columns)
        (subst (λ (keys : List (List ℕ)). length (filter (is_for keys) transform.columns) ≤ 61) (sym keys_are)
        (by_name (λ (def : TableDef). length (filter (is_for_key def) transform.columns) ≤ 61) config.tables transform.source_table change.table at.one sound.tables.apart at.there
        source (few extract implied)));
  };
  apart = AllPairs-filter (λ (a b : TransformColumn). clash a b ≡ false) (takes_part doc.event) transform.columns fits.apart;
  starred = filter_all StarredKey (takes_part doc.event) transform.columns
      (mapped (IsTransformColumn Extract transform.column_policy at.one) StarredKey transform.columns (λ c one pk. one.key_events pk) own.each);
  key = or_cases (list_any is_pk transform.columns) (is_implied transform.column_policy && list_any (key_remains at.one transform.columns) at.one.key) own.keyed
      by_column by_key;
}
  where
    doc : DocRow
    doc = doc_of_change config.tables change

    active : List TransformColumn
    active = active_columns transform doc

    at : Stands config.tables change.table
    at = stands config.tables change.table is.table

    extract : transform.point ≡ Extract
    extract = point_is transform.point (and_left (is_point transform.point Extract) _ meant)

    source : transform.source_table ≡ at.one.name
    source = equal transform.source_table doc.table (and_right (bytes_eq (group_name config.groups transform.target_group) way.target_group) _
        (and_right (bytes_eq (group_name config.groups transform.source_group) way.source_group) _ (and_right (is_point transform.point Extract) _ meant)))
        ∙ ap (λ (o : Option TableDef). option_map_or (λ (d : TableDef). d.name) o []) at.there

    own : IsOwn transform at.one
    own = own_by transform at.one extract
        (by_name (FitsTable transform) config.tables transform.source_table change.table at.one sound.tables.apart at.there source
        (subst (λ (p : Point). IsSomeAnd (table_named config.tables (elim p [ Extract ↦ transform.source_table | Load ↦ transform.target_table ])) (FitsTable transform))
        extract fits.table))

    column_is : (c : TransformColumn) → IsTransformColumn Extract transform.column_policy at.one c → all_scalars c.expression ≡ true → IsColumn way c
    column_is c one text = (one.target, made_fits way c.kind c.expression c.parsed from to text one.short one.parsed)

    at_most : (a b n : ℕ) → a ≤ b → b ≤ n → a ≤ n
    at_most a b n first second = omega (arith, first, second)

    by_column : list_any is_pk transform.columns ≡ true → HasKey transform.column_policy active doc
    by_column some =
        any_gives is_pk (λ (c : TransformColumn). In c transform.columns × IsTransformColumn Extract transform.column_policy at.one c) transform.columns some
        (members (IsTransformColumn Extract transform.column_policy at.one) transform.columns own.each)
        (λ c pk one. listed c (in_kept (takes_part doc.event) c transform.columns one.0 (key_takes_part doc c one.1 pk)) pk (ap not (one.1.key_made pk)) (one.1.key_events pk))

    columns_are : columns_at config.tables change.table ≡ at.one.columns
    columns_are = ap (λ (o : Option TableDef). option_map_or (λ (d : TableDef). d.columns) o []) at.there

    places_are : key_places config.tables change.table ≡ at.one.key
    places_are = ap (λ (o : Option TableDef). option_map_or (λ (d : TableDef). d.key) o []) at.there

    keys_are : doc.keys ≡ map (column_name at.one.columns) at.one.key
    keys_are = ap (λ (columns : List ColumnDef). map (column_name columns) (key_places config.tables change.table)) columns_are
        ∙ ap (map (column_name at.one.columns)) places_are

    key_there : (place : ℕ) → In place at.one.key → In (column_name at.one.columns place) doc.keys
    key_there place inside = subst (λ (columns : List ColumnDef). In (column_name columns place) doc.keys) columns_are
        (in_map (column_name (columns_at config.tables change.table)) place (key_places config.tables change.table) (subst (In place) (sym places_are) inside))

    column_there : (place : ℕ) → place < length at.one.columns → In (column_name at.one.columns place) doc.columns
    column_there place within =
        let one = stands at.one.columns place within in
        subst (λ (name : List ℕ). In name doc.columns) (sym (ap (λ (o : Option ColumnDef). option_map_or (λ (c : ColumnDef). c.name) o []) one.there))
        (in_map (λ (c : ColumnDef). c.name) one.one (columns_at config.tables change.table)
        (subst (In one.one) (sym columns_are) (in_slice at.one.columns place one.one one.there)))

    table_key : IsKey at.one.columns at.one.key
    table_key = slice_all (λ (d : TableDef). IsKey d.columns d.key) config.tables change.table at.one sound.tables.keys at.there

    by_key : (is_implied transform.column_policy && list_any (key_remains at.one transform.columns) at.one.key) ≡ true → HasKey transform.column_policy active doc
    by_key both =
        any_gives (key_remains at.one transform.columns) (λ (place : ℕ). In place at.one.key × (place < length at.one.columns)) at.one.key
        (and_right (is_implied transform.column_policy) _ both)
        (members (λ (place : ℕ). place < length at.one.columns) at.one.key table_key.within)
        (λ place free inside. remains (column_name at.one.columns place) (policy_is transform.column_policy (and_left (is_implied transform.column_policy) _ both))
        (key_there place inside.0) (column_there place inside.1)
        (stays transform.columns doc (column_name at.one.columns place) (not_true_is (list_any (removes_column (column_name at.one.columns place)) transform.columns) free)))
