-- The keys of a made row: names, one or more, each once; and that a made side has some column.
use Rattle.std.proofs.Common.{◌≡◌, ℕ, ◌+◌, ◌≤◌, Bool, true, false, cond, not, ◌&&◌, ◌||◌, List, [], ◌∷◌, ◌++◌, length, Option, None, Some, refl, sym, ap, subst, ◌∙◌, arith, true≢false, All, AllPairs, filter, get_or}
use Rattle.std.proofs.lemmas.List.{length-append, length-map}
use Rattle.std.proofs.lemmas.List.Elements.{All-append}
use Rattle.std.proofs.lemmas.List.Kept.{AllPairs-filter}
use Rattle.std.specs.List.{flat_map, list_any}
use Rattle.std.specs.Prelude.{codes}
use Rattle.std.specs.Str.{bytes_eq}
use Rattle.sds_value.specs.declared.row.DocRow.{DocRow}
use Rattle.sds_value.specs.declared.row.Field.{Field}
use Rattle.sds_types.specs.declared.transform.ColumnPolicy.{ColumnPolicy}
use Rattle.sds_types.specs.declared.transform.ColumnPolicy.TheVariants.{Specified, Implied}
use Rattle.sds_types.specs.declared.transform_column.TransformColumn.{TransformColumn}
use Rattle.sds_types.specs.declared.way.Way.{Way}
use Rattle.sds_trade.specs.rules.ColumnFunctions.{has_letter, is_all_events}
use Rattle.sds_trade.specs.rules.MadeSides.{column_for, in_place, is_further, is_implied, made_field, made_fields, made_keys, made_side, makes, names_of, passed_fields, pk_targets, remaining_keys}
use Rattle.sds_trade.specs.rules.Places.{is_among}
use Rattle.sds_trade.specs.rules.Sides.{Side}
use Rattle.sds_trade.specs.sound.TransformColumns.{clash, share_event}
use Rattle.sds_trade.proofs.Lists.{all_head, all_tail, pairs_append, pairs_head, pairs_tail, passes}
use Rattle.sds_nodelaws.proofs.Held.{mapped}
use Rattle.sds_nodelaws.proofs.Items.{equal, itself}
use Rattle.sds_nodelaws.proofs.Lists.Either.{left, right}
use Rattle.sds_nodelaws.proofs.Lists.{In, and_both, any_true, filter_all, in_map, map_all}
use Rattle.sds_doclaws.proofs.Plain.{pairs_map}
use Rattle.sds_doclaws.proofs.Rows.{IsName}
use Rattle.sds_doclaws.proofs.Sides.{IsColumn, IsSide, kept}
use Rattle.sds_doclaws.proofs.Sums.{Distinct, filter_few, none_among, other_way}

-- MEMBERS
pub in_some : {X : Type 0} (x : X) (xs : List X) → In x xs → 1 ≤ length xs
in_some x [] is = absurd is
in_some x (y ∷ ys) is = omega arith

pub in_kept : {X : Type 0} (p : X → Bool) (x : X) (xs : List X) → In x xs → p x ≡ true → In x (filter p xs)
in_kept p x [] is pass = absurd is
in_kept {X} p x (y ∷ ys) (left same) pass = subst (λ (b : Bool). In x (cond b (y ∷ filter p ys) (filter p ys))) (sym (ap p (sym same) ∙ pass)) (left same)
in_kept {X} p x (y ∷ ys) (right rest) pass = on (p y) (in_kept p x ys rest pass)
  where
    on : (b : Bool) → In x (filter p ys) → In x (cond b (y ∷ filter p ys) (filter p ys))
    on true later = right later
    on false later = later

pub among_in : (names : List (List ℕ)) (name : List ℕ) → is_among names name ≡ true → In name names
among_in [] name is = absurd (true≢false (sym is))
among_in (n ∷ ns) name is = on (bytes_eq n name) refl is (λ rest. among_in ns name rest)
  where
    on : (b : Bool) → bytes_eq n name ≡ b → (b || is_among ns name) ≡ true → (is_among ns name ≡ true → In name ns) → In name (n ∷ ns)
    on true same any later = left (sym (equal n name same))
    on false other any later = right (later any)

pub in_among : (names : List (List ℕ)) (name : List ℕ) → In name names → is_among names name ≡ true
in_among names name is = any_true (λ (other : List ℕ). bytes_eq other name) name names is (itself name)

names_first : (name : List ℕ) (xs ys : List (List ℕ × Field)) → In name (names_of xs) → In name (names_of (xs ++ ys))
names_first name [] ys is = absurd is
names_first name (x ∷ xs) ys (left same) = left same
names_first name (x ∷ xs) ys (right rest) = right (names_first name xs ys rest)

names_last : (name : List ℕ) (xs ys : List (List ℕ × Field)) → In name (names_of ys) → In name (names_of (xs ++ ys))
names_last name [] ys is = is
names_last name (x ∷ xs) ys is = right (names_last name xs ys is)

named_some : (name : List ℕ) (xs : List (List ℕ × Field)) → In name (names_of xs) → 1 ≤ length xs
named_some name [] is = absurd is
named_some name (x ∷ xs) is = omega arith

-- NAMES that a made side has: those of the source that no column removes
placed_has : (way : Way) (side : Side) (at : List ℕ × Field) (found : Option TransformColumn) → kept found ≡ 1 → In at.0 (names_of (in_place way side at found))
placed_has way side at None is = left refl
placed_has way side at (Some c) is = on (makes c) is
  where
    on : (b : Bool) → elim b as (λ x. ℕ) [ true ↦ 1 | false ↦ 0 ] ≡ 1
        → In at.0 (names_of (elim b as (λ x. List (List ℕ × Field)) [ true ↦ (at.0, made_field way side c) ∷ [] | false ↦ [] ]))
    on true is = left refl
    on false is = absurd (omega (arith, is))

passed_has : (way : Way) (columns : List TransformColumn) (side : Side) (listed : List (List ℕ × Field)) (name : List ℕ)
    → In name (names_of listed) → kept (column_for columns name) ≡ 1
    → In name (names_of (flat_map (λ (at : List ℕ × Field). in_place way side at (column_for columns at.0)) listed))
passed_has way columns side [] name is stays = absurd is
passed_has way columns side (at ∷ listed) name (left same) stays =
    names_first name (in_place way side at (column_for columns at.0)) (flat_map (λ (one : List ℕ × Field). in_place way side one (column_for columns one.0)) listed)
    (subst (λ (n : List ℕ). In n (names_of (in_place way side at (column_for columns at.0)))) (sym same)
    (placed_has way side at (column_for columns at.0) (ap (λ (n : List ℕ). kept (column_for columns n)) (sym same) ∙ stays)))
passed_has way columns side (at ∷ listed) name (right rest) stays =
    names_last name (in_place way side at (column_for columns at.0)) (flat_map (λ (one : List ℕ × Field). in_place way side one (column_for columns one.0)) listed)
    (passed_has way columns side listed name rest stays)

side_has : (way : Way) (columns : List TransformColumn) (side : Side) (name : List ℕ) → In name (names_of side.listed) → kept (column_for columns name) ≡ 1
    → In name (names_of (made_side way Implied columns side))
side_has way columns side name is stays =
    names_first name (passed_fields way columns side) (made_fields way (filter (is_further side) columns) side) (passed_has way columns side side.listed name is stays)

-- KEYS. A row has one: a listed column, or under the implied policy one of the source's that stays
abbrev pub Apart : List TransformColumn → Type 0
Apart columns = AllPairs (λ (a b : TransformColumn). clash a b ≡ false) columns

pub data HasKey (policy : ColumnPolicy) (columns : List TransformColumn) (doc : DocRow) : Type 0 where
  listed : (c : TransformColumn) → In c columns → c.pk ≡ true → makes c ≡ true → c.include_on ≡ codes "*" → HasKey policy columns doc
  remains : (key : List ℕ) → policy ≡ Implied → In key doc.keys → In key doc.columns → kept (column_for columns key) ≡ 1 → HasKey policy columns doc

pub all_events : (letters : List ℕ) → letters ≡ codes "*" → is_all_events letters ≡ true
all_events letters is = ap is_all_events is ∙ itself (codes "*")

or_second : (a b : Bool) → b ≡ true → (a || b) ≡ true
or_second true b is = refl
or_second false b is = is

or_first : (a b : Bool) → a ≡ true → (a || b) ≡ true
or_first true b is = refl
or_first false b is = absurd (true≢false (sym is))

not_both : (a b : Bool) → (a && b) ≡ false → b ≡ true → a ≡ false
not_both true b none is = absurd (true≢false (sym is ∙ none))
not_both false b none is = refl

-- of two columns that clash nowhere, one of which takes part at all events, the targets differ
targets_differ : (a b : TransformColumn) → clash a b ≡ false → b.include_on ≡ codes "*" → bytes_eq a.target b.target ≡ false
targets_differ a b apart all = not_both (bytes_eq a.target b.target) (share_event a.include_on b.include_on) apart
    (or_second (is_all_events a.include_on) (is_all_events b.include_on || list_any (has_letter b.include_on) a.include_on)
    (or_first (is_all_events b.include_on) (list_any (has_letter b.include_on) a.include_on) (all_events b.include_on all)))

in_all_of : {X : Type 0} (P : X → Type 0) (x : X) (xs : List X) → All P xs → In x xs → P x
in_all_of P x [] are is = absurd is
in_all_of P x (y ∷ ys) are (left same) = subst P (sym same) (all_head P y ys are)
in_all_of P x (y ∷ ys) are (right rest) = in_all_of P x ys (all_tail P y ys are) rest

-- so such a column is the one of its target
own_column : (columns : List TransformColumn) (c : TransformColumn) → Apart columns → In c columns → c.include_on ≡ codes "*" → column_for columns c.target ≡ Some c
own_column [] c apart is all = absurd is
own_column (d ∷ ds) c apart (left same) all =
    ap (λ (b : Bool). cond b (Some d) (column_for ds c.target)) (ap (λ (x : TransformColumn). bytes_eq x.target c.target) (sym same) ∙ itself c.target) ∙ ap Some (sym same)
own_column (d ∷ ds) c apart (right rest) all =
    ap (λ (b : Bool). cond b (Some d) (column_for ds c.target))
    (targets_differ d c (in_all_of (λ (x : TransformColumn). clash d x ≡ false) c ds (pairs_head (λ (a b : TransformColumn). clash a b ≡ false) d ds apart) rest) all)
    ∙ own_column ds c (pairs_tail (λ (a b : TransformColumn). clash a b ≡ false) d ds apart) rest all

made_in : (way : Way) (columns : List TransformColumn) (side : Side) (c : TransformColumn) → In c columns → makes c ≡ true → 1 ≤ length (made_fields way columns side)
made_in way columns side c is made = in_some (c.target, made_field way side c) (made_fields way columns side)
    (in_map (λ (d : TransformColumn). (d.target, made_field way side d)) c (filter makes columns) (in_kept makes c columns is made))

longer : {X : Type 0} (xs ys : List X) → 1 ≤ length xs → 1 ≤ length (xs ++ ys)
longer xs ys some = on (length (xs ++ ys)) (length xs) (length ys) (length-append xs ys) some
  where
    on : (n a b : ℕ) → n ≡ a + b → 1 ≤ a → 1 ≤ n
    on n a b same some = omega (arith, same, some)

longer_last : {X : Type 0} (xs ys : List X) → 1 ≤ length ys → 1 ≤ length (xs ++ ys)
longer_last xs ys some = on (length (xs ++ ys)) (length xs) (length ys) (length-append xs ys) some
  where
    on : (n a b : ℕ) → n ≡ a + b → 1 ≤ b → 1 ≤ n
    on n a b same some = omega (arith, same, some)

-- a made side has some column
listed_some : (way : Way) (policy : ColumnPolicy) (columns : List TransformColumn) (side : Side) (c : TransformColumn) → Apart columns → In c columns → makes c ≡ true
    → c.include_on ≡ codes "*" → 1 ≤ length (made_side way policy columns side)
listed_some way Specified columns side c apart is made all = made_in way columns side c is made
listed_some way Implied columns side c apart is made all = on (is_among (names_of side.listed) c.target) refl
  where
    further : List TransformColumn
    further = filter (is_further side) columns

    on : (b : Bool) → is_among (names_of side.listed) c.target ≡ b → 1 ≤ length (passed_fields way columns side ++ made_fields way further side)
    on true among = named_some c.target (made_side way Implied columns side) (side_has way columns side c.target (among_in (names_of side.listed) c.target among)
        (ap kept (own_column columns c apart is all) ∙ ap (λ (t : Bool). elim t as (λ x. ℕ) [ true ↦ 1 | false ↦ 0 ]) made))
    on false none = longer_last (passed_fields way columns side) (made_fields way further side)
        (made_in way further side c (in_kept (is_further side) c columns is (ap not none)) made)

pub side_some : (way : Way) (policy : ColumnPolicy) (columns : List TransformColumn) (doc : DocRow) (side : Side) → Apart columns → IsSide doc.columns side
    → HasKey policy columns doc → 1 ≤ length (made_side way policy columns side)
side_some way policy columns doc side apart is (listed c there pk made all) = listed_some way policy columns side c apart there made all
side_some way Specified columns doc side apart is (remains key implied among column stays) = absurd (cc)
side_some way Implied columns doc side apart is (remains key implied among column stays) =
    named_some key (made_side way Implied columns side) (side_has way columns side key (subst (In key) (sym is.same) column) stays)

-- and a made row some key
pk_in : (columns : List TransformColumn) (c : TransformColumn) → In c columns → c.pk ≡ true → 1 ≤ length (pk_targets columns)
pk_in columns c is pk = in_some c.target (pk_targets columns)
    (in_map (λ (d : TransformColumn). d.target) c (filter (λ (d : TransformColumn). d.pk) columns) (in_kept (λ (d : TransformColumn). d.pk) c columns is pk))

remaining_in : (doc : DocRow) (made : List (List ℕ × Field)) (others : List (List ℕ)) (key : List ℕ) → In key doc.keys → In key (names_of made)
    → is_among others key ≡ false → 1 ≤ length (remaining_keys Implied doc made others)
remaining_in doc made others key is column none = in_some key (remaining_keys Implied doc made others)
    (in_kept (λ (k : List ℕ). is_implied Implied && (is_among (names_of made) k && not (is_among others k))) key doc.keys is
    (and_both (is_among (names_of made) key) (not (is_among others key)) (in_among (names_of made) key column) (ap not none)))

pub keys_some : (way : Way) (policy : ColumnPolicy) (columns : List TransformColumn) (doc : DocRow) (side : Side) → IsSide doc.columns side → HasKey policy columns doc
    → 1 ≤ length (made_keys policy columns doc (made_side way policy columns side))
keys_some way policy columns doc side is (listed c there pk made all) =
    longer (pk_targets columns) (remaining_keys policy doc (made_side way policy columns side) (pk_targets columns)) (pk_in columns c there pk)
keys_some way Specified columns doc side is (remains key implied among column stays) = absurd (cc)
keys_some way Implied columns doc side is (remains key implied among column stays) = on (is_among (pk_targets columns) key) refl
  where
    made : List (List ℕ × Field)
    made = made_side way Implied columns side

    on : (b : Bool) → is_among (pk_targets columns) key ≡ b → 1 ≤ length (pk_targets columns ++ remaining_keys Implied doc made (pk_targets columns))
    on true there = longer (pk_targets columns) (remaining_keys Implied doc made (pk_targets columns)) (in_some key (pk_targets columns) (among_in (pk_targets columns) key there))
    on false none = longer_last (pk_targets columns) (remaining_keys Implied doc made (pk_targets columns))
        (remaining_in doc made (pk_targets columns) key among (side_has way columns side key (subst (In key) (sym is.same) column) stays) none)

-- a delete that becomes an update has some column
pub mark_some : (way : Way) (policy : ColumnPolicy) (columns : List TransformColumn) (doc : DocRow) (side : Side) → IsSide doc.columns side → HasKey policy columns doc
    → 1 ≤ length (made_fields way columns side) + length (remaining_keys policy doc (made_side way policy columns side) (names_of (made_fields way columns side)))
mark_some way policy columns doc side is (listed c there pk made all) =
    on (length (made_fields way columns side)) (length (remaining_keys policy doc (made_side way policy columns side) (names_of (made_fields way columns side))))
    (made_in way columns side c there made)
  where
    on : (a b : ℕ) → 1 ≤ a → 1 ≤ a + b
    on a b some = omega (arith, some)
mark_some way Specified columns doc side is (remains key implied among column stays) = absurd (cc)
mark_some way Implied columns doc side is (remains key implied among column stays) = on (is_among (names_of made) key) refl
  where
    made : List (List ℕ × Field)
    made = made_fields way columns side

    first : (a b : ℕ) → 1 ≤ a → 1 ≤ a + b
    first a b some = omega (arith, some)

    second : (a b : ℕ) → 1 ≤ b → 1 ≤ a + b
    second a b some = omega (arith, some)

    on : (b : Bool) → is_among (names_of made) key ≡ b → 1 ≤ length made + length (remaining_keys Implied doc (made_side way Implied columns side) (names_of made))
    on true there = first (length made) (length (remaining_keys Implied doc (made_side way Implied columns side) (names_of made)))
        (named_some key made (among_in (names_of made) key there))
    on false none = second (length made) (length (remaining_keys Implied doc (made_side way Implied columns side) (names_of made)))
        (remaining_in doc (made_side way Implied columns side) (names_of made) key among (side_has way columns side key (subst (In key) (sym is.same) column) stays) none)

-- NAMES OF KEYS, each once
pub record AreKeys (keys : List (List ℕ)) : Type 0 where
  pub named : All IsName keys
  pub few : length keys ≤ 128
  pub apart : Distinct keys

abbrev pub StarredKey : TransformColumn → Type 0
StarredKey c = c.pk ≡ true → c.include_on ≡ codes "*"

pks_apart : (columns : List TransformColumn) → Apart columns → All StarredKey columns → Distinct (pk_targets columns)
pks_apart columns apart starred =
    pairs_map (λ (a b : List ℕ). bytes_eq a b ≡ false) (λ (c : TransformColumn). c.target) (filter (λ (c : TransformColumn). c.pk) columns)
    (λ i j d less within. targets_differ (get_or (filter (λ (c : TransformColumn). c.pk) columns) i d) (get_or (filter (λ (c : TransformColumn). c.pk) columns) j d)
    (AllPairs-filter (λ (a b : TransformColumn). clash a b ≡ false) (λ (c : TransformColumn). c.pk) columns apart i j d less within)
    (filter_all StarredKey (λ (c : TransformColumn). c.pk) columns starred j d within (passes (λ (c : TransformColumn). c.pk) columns j d within)))

not_true_is : (b : Bool) → not b ≡ true → b ≡ false
not_true_is true is = absurd (true≢false (sym is))
not_true_is false is = refl

and_third : (a b c : Bool) → (a && (b && c)) ≡ true → c ≡ true
and_third true true c all = all
and_third true false c all = absurd (true≢false (sym all))
and_third false b c all = absurd (true≢false (sym all))

pub remaining_others : (policy : ColumnPolicy) (doc : DocRow) (made : List (List ℕ × Field)) (others : List (List ℕ))
    → All (λ (key : List ℕ). is_among others key ≡ false) (remaining_keys policy doc made others)
remaining_others policy doc made others =
    mapped (λ (k : List ℕ). (is_implied policy && (is_among (names_of made) k && not (is_among others k))) ≡ true) (λ (key : List ℕ). is_among others key ≡ false)
    (remaining_keys policy doc made others)
    (λ key is. not_true_is (is_among others key) (and_third (is_implied policy) (is_among (names_of made) key) (not (is_among others key)) is))
    (passes (λ (k : List ℕ). is_implied policy && (is_among (names_of made) k && not (is_among others k))) doc.keys)

pub keys_are : (way : Way) (policy : ColumnPolicy) (columns : List TransformColumn) (doc : DocRow) (made : List (List ℕ × Field)) → Apart columns → All StarredKey columns
    → All (IsColumn way) columns → length columns ≤ 64 → All IsName doc.keys → Distinct doc.keys → length doc.keys ≤ 64 → AreKeys (made_keys policy columns doc made)
keys_are way policy columns doc made apart starred are few named distinct few_keys = record {
  named = All-append IsName (pk_targets columns) remaining
      (map_all IsName (λ (c : TransformColumn). c.target) (filter (λ (c : TransformColumn). c.pk) columns)
      (mapped (IsColumn way) (λ (c : TransformColumn). IsName c.target) (filter (λ (c : TransformColumn). c.pk) columns) (λ c is. is.0)
      (filter_all (IsColumn way) (λ (c : TransformColumn). c.pk) columns are)))
      (filter_all IsName test doc.keys named);
  few = count (length (pk_targets columns ++ remaining)) (length (pk_targets columns)) (length remaining) (length (filter (λ (c : TransformColumn). c.pk) columns))
      (length columns) (length doc.keys) (length-append (pk_targets columns) remaining)
      (length-map (filter (λ (c : TransformColumn). c.pk) columns) (λ (c : TransformColumn). c.target)) (filter_few (λ (c : TransformColumn). c.pk) columns)
      (filter_few test doc.keys) few few_keys;
  apart = pairs_append (λ (a b : List ℕ). bytes_eq a b ≡ false) (pk_targets columns) remaining (pks_apart columns apart starred)
      (AllPairs-filter (λ (a b : List ℕ). bytes_eq a b ≡ false) test doc.keys distinct)
      (λ i d inside. λ j e within. across j e within i d inside);
}
  where
    test : List ℕ → Bool
    test key = is_implied policy && (is_among (names_of made) key && not (is_among (pk_targets columns) key))

    remaining : List (List ℕ)
    remaining = remaining_keys policy doc made (pk_targets columns)

    across : All (λ (key : List ℕ). All (λ (n : List ℕ). bytes_eq n key ≡ false) (pk_targets columns)) remaining
    across = mapped (λ (key : List ℕ). is_among (pk_targets columns) key ≡ false) (λ (key : List ℕ). All (λ (n : List ℕ). bytes_eq n key ≡ false) (pk_targets columns)) remaining
        (λ key none. mapped (λ (n : List ℕ). bytes_eq key n ≡ false) (λ (n : List ℕ). bytes_eq n key ≡ false) (pk_targets columns) (λ n other. other_way key n other)
        (none_among (pk_targets columns) key none))
        (remaining_others policy doc made (pk_targets columns))

    count : (n a b f k d : ℕ) → n ≡ a + b → a ≡ f → f ≤ k → b ≤ d → k ≤ 64 → d ≤ 64 → n ≤ 128
    count n a b f k d first second third fourth fifth sixth = omega (arith, first, second, third, fourth, fifth, sixth)
