-- A delete that becomes an update: its columns, and what they take.
use Rattle.std.proofs.Common.{◌≡◌, ℕ, ◌+◌, ◌*◌, ◌≤◌, Bool, true, false, cond, not, ◌&&◌, ◌||◌, List, [], ◌∷◌, ◌++◌, length, map, Option, None, Some, refl, sym, ap, subst, ◌∙◌, arith, true≢false, All, filter, find, get_or}
use Rattle.std.proofs.lemmas.List.{length-append, length-map}
use Rattle.std.proofs.lemmas.List.Elements.{All-nil, All-cons, All-append}
use Rattle.std.proofs.lemmas.List.Kept.{AllPairs-filter}
use Rattle.std.specs.List.{flat_map}
use Rattle.std.specs.Option.{option_map_or}
use Rattle.std.specs.Str.{bytes_eq}
use Rattle.sds_value.specs.declared.row.DocRow.{DocRow}
use Rattle.sds_value.specs.declared.row.Field.{Field}
use Rattle.sds_value.specs.declared.row.Field.TheVariants.{Null}
use Rattle.sds_types.specs.declared.transform.ColumnPolicy.{ColumnPolicy}
use Rattle.sds_types.specs.declared.transform.ColumnPolicy.TheVariants.{Specified, Implied}
use Rattle.sds_types.specs.declared.transform_column.TransformColumn.{TransformColumn}
use Rattle.sds_types.specs.declared.way.Way.{Way}
use Rattle.sds_trade.specs.rules.DocRows.{field_in}
use Rattle.sds_trade.specs.rules.MadeSides.{column_for, in_place, is_further, is_implied, made_field, made_fields, made_side, makes, names_of, passed_fields, remaining_keys}
use Rattle.sds_trade.specs.rules.Places.{is_among}
use Rattle.sds_trade.specs.rules.Sides.{Side}
use Rattle.sds_trade.proofs.Lists.{all_head, all_tail}
use Rattle.sds_nodelaws.proofs.Held.{mapped}
use Rattle.sds_nodelaws.proofs.Items.{equal}
use Rattle.sds_nodelaws.proofs.Lists.{filter_all, filter_none, find_all, find_passes, map_all}
use Rattle.sds_doclaws.proofs.Keys.{mark_some, remaining_others, HasKey}
use Rattle.sds_doclaws.proofs.Rows.{IsName}
use Rattle.sds_doclaws.proofs.Sides.{TakePart, IsMade, IsPair, IsSide, fields_cost, fields_pairs, found_fits}
use Rattle.sds_doclaws.proofs.Sums.{Distinct, filter_few, looked_up, pair_cost, sum_append, sum_map}
use Rattle.sds_doclaws.proofs.Weights.{cost, sum_of}

-- NAMES that no column makes
abbrev pub NotMade : List ℕ → TransformColumn → Type 0
NotMade key c = makes c ≡ true → bytes_eq c.target key ≡ false

abbrev made_pair : Way → Side → TransformColumn → List ℕ × Field
made_pair way side c = (c.target, made_field way side c)

or_none : (a b : Bool) → (a || b) ≡ false → (a ≡ false) × (b ≡ false)
or_none true b none = absurd (true≢false none)
or_none false b none = (refl, none)

not_made : (way : Way) (columns : List TransformColumn) (side : Side) (key : List ℕ) → is_among (names_of (made_fields way columns side)) key ≡ false
    → All (NotMade key) columns
not_made way [] side key none = All-nil (NotMade key)
not_made way (c ∷ cs) side key none = on (makes c) refl none (λ rest. not_made way cs side key rest)
  where
    on : (b : Bool) → makes c ≡ b → is_among (names_of (map (made_pair way side) (cond b (c ∷ filter makes cs) (filter makes cs)))) key ≡ false
        → (is_among (names_of (made_fields way cs side)) key ≡ false → All (NotMade key) cs) → All (NotMade key) (c ∷ cs)
    on true is none rest =
        let both = or_none (bytes_eq c.target key) (is_among (names_of (made_fields way cs side)) key) none in
        All-cons (NotMade key) c cs (λ made. both.0) (rest both.1)
    on false is none rest = All-cons (NotMade key) c cs (λ made. absurd (true≢false (sym made ∙ is))) (rest none)

pub none_made : (way : Way) (columns : List TransformColumn) (side : Side) (key : List ℕ) → All (NotMade key) columns
    → is_among (names_of (made_fields way columns side)) key ≡ false
none_made way [] side key none = refl
none_made way (c ∷ cs) side key none = on (makes c) refl (none_made way cs side key (all_tail (NotMade key) c cs none))
  where
    on : (b : Bool) → makes c ≡ b → is_among (names_of (made_fields way cs side)) key ≡ false
        → is_among (names_of (map (made_pair way side) (cond b (c ∷ filter makes cs) (filter makes cs)))) key ≡ false
    on true is rest = ap (λ (b : Bool). b || is_among (names_of (made_fields way cs side)) key) (all_head (NotMade key) c cs none is) ∙ rest
    on false is rest = rest

-- FIELDS looked up among more fields
none_found : (ys : List (List ℕ × Field)) (key : List ℕ) → is_among (names_of ys) key ≡ false → field_in ys key ≡ Null
none_found [] key none = refl
none_found (y ∷ ys) key none =
    let both = or_none (bytes_eq y.0 key) (is_among (names_of ys) key) none in
    ap (λ (b : Bool). option_map_or (λ (at : List ℕ × Field). at.1) (cond b (Some y) (find (λ (at : List ℕ × Field). bytes_eq at.0 key) ys)) Null) both.0 ∙ none_found ys key both.1

pub found_first : (xs ys : List (List ℕ × Field)) (key : List ℕ) → is_among (names_of ys) key ≡ false → field_in (xs ++ ys) key ≡ field_in xs key
found_first [] ys key none = none_found ys key none
found_first (x ∷ xs) ys key none = on (bytes_eq x.0 key) (found_first xs ys key none)
  where
    by : Bool → List (List ℕ × Field) → Field
    by b rest = option_map_or (λ (at : List ℕ × Field). at.1) (cond b (Some x) (find (λ (at : List ℕ × Field). bytes_eq at.0 key) rest)) Null

    on : (b : Bool) → field_in (xs ++ ys) key ≡ field_in xs key → by b (xs ++ ys) ≡ by b xs
    on true same = refl
    on false same = same

skipped : (way : Way) (side : Side) (at : List ℕ × Field) (found : Option TransformColumn) (ys : List (List ℕ × Field)) (key : List ℕ) → bytes_eq at.0 key ≡ false
    → field_in (in_place way side at found ++ ys) key ≡ field_in ys key
skipped way side at None ys key other =
    ap (λ (b : Bool). option_map_or (λ (one : List ℕ × Field). one.1) (cond b (Some at) (find (λ (one : List ℕ × Field). bytes_eq one.0 key) ys)) Null) other
skipped way side at (Some c) ys key other = on (makes c)
  where
    on : (b : Bool) → field_in (elim b as (λ x. List (List ℕ × Field)) [ true ↦ (at.0, made_field way side c) ∷ [] | false ↦ [] ] ++ ys) key ≡ field_in ys key
    on true = ap (λ (b : Bool). option_map_or (λ (one : List ℕ × Field). one.1)
        (cond b (Some (at.0, made_field way side c)) (find (λ (one : List ℕ × Field). bytes_eq one.0 key) ys)) Null) other
    on false = refl

abbrev place : Way → List TransformColumn → Side → List ℕ × Field → List (List ℕ × Field)
place way columns side at = in_place way side at (column_for columns at.0)

-- a column of the source that no column is for passes
pub passes_by : (way : Way) (columns : List TransformColumn) (side : Side) (listed : List (List ℕ × Field)) (key : List ℕ) → column_for columns key ≡ None
    → field_in (flat_map (place way columns side) listed) key ≡ field_in listed key
passes_by way columns side [] key none = refl
passes_by way columns side (at ∷ listed) key none = on (bytes_eq at.0 key) refl (passes_by way columns side listed key none)
  where
    rest : List (List ℕ × Field)
    rest = flat_map (place way columns side) listed

    by : Bool → List (List ℕ × Field) → Field
    by b more = option_map_or (λ (one : List ℕ × Field). one.1) (cond b (Some at) (find (λ (one : List ℕ × Field). bytes_eq one.0 key) more)) Null

    on : (b : Bool) → bytes_eq at.0 key ≡ b → field_in rest key ≡ field_in listed key → field_in (in_place way side at (column_for columns at.0) ++ rest) key ≡ by b listed
    on true same more =
        ap (λ (found : Option TransformColumn). field_in (in_place way side at found ++ rest) key) (ap (column_for columns) (equal at.0 key same) ∙ none)
        ∙ ap (λ (b : Bool). by b rest) same
    on false other more = skipped way side at (column_for columns at.0) rest key other ∙ more

-- and one that is removed is gone
gone_by : (way : Way) (columns : List TransformColumn) (side : Side) (listed : List (List ℕ × Field)) (key : List ℕ) (c : TransformColumn)
    → column_for columns key ≡ Some c → makes c ≡ false → field_in (flat_map (place way columns side) listed) key ≡ Null
gone_by way columns side [] key c is removes = refl
gone_by way columns side (at ∷ listed) key c is removes = on (bytes_eq at.0 key) refl (gone_by way columns side listed key c is removes)
  where
    rest : List (List ℕ × Field)
    rest = flat_map (place way columns side) listed

    on : (b : Bool) → bytes_eq at.0 key ≡ b → field_in rest key ≡ Null → field_in (in_place way side at (column_for columns at.0) ++ rest) key ≡ Null
    on true same more =
        ap (λ (found : Option TransformColumn). field_in (in_place way side at found ++ rest) key) (ap (column_for columns) (equal at.0 key same) ∙ is)
        ∙ (ap (λ (b : Bool). field_in (elim b as (λ x. List (List ℕ × Field)) [ true ↦ (at.0, made_field way side c) ∷ [] | false ↦ [] ] ++ rest) key) removes ∙ more)
    on false other more = skipped way side at (column_for columns at.0) rest key other ∙ more

least_cost : (f : Field) → cost Null ≤ cost f
least_cost f = omega arith

pub same_cost : (a b : Field) → a ≡ b → cost a ≤ cost b
same_cost a b same = subst (λ (f : Field). cost a ≤ cost f) same (on (cost a))
  where
    on : (n : ℕ) → n ≤ n
    on n = omega arith

kept_cost : (way : Way) (columns : List TransformColumn) (side : Side) (key : List ℕ) → All (NotMade key) columns
    → cost (field_in (made_side way Implied columns side) key) ≤ cost (field_in side.listed key)
kept_cost way columns side key none =
    subst (λ (f : Field). cost f ≤ cost (field_in side.listed key))
    (sym (found_first (passed_fields way columns side) (made_fields way (filter (is_further side) columns) side) key
    (none_made way (filter (is_further side) columns) side key (filter_all (NotMade key) (is_further side) columns none))))
    (on (column_for columns key) refl)
  where
    on : (found : Option TransformColumn) → column_for columns key ≡ found → cost (field_in (passed_fields way columns side) key) ≤ cost (field_in side.listed key)
    on None is = same_cost (field_in (passed_fields way columns side) key) (field_in side.listed key) (passes_by way columns side side.listed key is)
    on (Some c) is = by (makes c) refl
      where
        by : (b : Bool) → makes c ≡ b → cost (field_in (passed_fields way columns side) key) ≤ cost (field_in side.listed key)
        by true made = absurd (true≢false (sym (find_passes (λ (d : TransformColumn). bytes_eq d.target key) columns c is)
            ∙ find_all (NotMade key) (λ (d : TransformColumn). bytes_eq d.target key) columns c none is made))
        by false removes = subst (λ (f : Field). cost f ≤ cost (field_in side.listed key)) (sym (gone_by way columns side side.listed key c is removes)) (least_cost (field_in side.listed key))

-- THE FIELDS of such an update: at most 64 made ones, and those of the source's keys, which take as
-- much as all its fields at most, and a comma more for each: 64 * 8,003 + 22,762 + 64 bytes
abbrev pub marked : Way → ColumnPolicy → List TransformColumn → DocRow → Side → List (List ℕ × Field)
marked way policy columns doc side =
    let old = made_side way policy columns side in
    let made = made_fields way columns side in
    made ++ map (λ (key : List ℕ). (key, field_in old key)) (remaining_keys policy doc old (names_of made))

pub record IsMarked (fields : List (List ℕ × Field)) : Type 0 where
  pub pairs : All IsPair fields
  pub short : sum_of pair_cost fields ≤ 535018
  pub few : length fields ≤ 128
  pub some : 1 ≤ length fields

pub marked_is : (way : Way) (policy : ColumnPolicy) (columns : List TransformColumn) (doc : DocRow) (side : Side) → TakePart way policy doc.keys columns
    → IsSide doc.columns side → IsMade (made_side way policy columns side) → HasKey policy columns doc → All IsName doc.keys → Distinct doc.keys → length doc.keys ≤ 64
    → IsMarked (marked way policy columns doc side)
marked_is way policy columns doc side c is made key named distinct few_keys = record {
  pairs = All-append IsPair fields further (fields_pairs way columns side is.sources_fit c.are)
      (map_all IsPair (λ (k : List ℕ). (k, field_in old k)) remaining
      (mapped IsName (λ (k : List ℕ). IsPair (k, field_in old k)) remaining (λ k name. (name, found_fits old k (λ i d within. (made.pairs i d within).1)))
      (filter_all IsName test doc.keys named)));
  short = by_policy policy refl;
  few = count (length (fields ++ further)) (length fields) (length further) (length (filter makes columns)) (length columns) (length remaining) (length doc.keys)
      (length-append fields further) (length-map (filter makes columns) (made_pair way side)) (filter_few makes columns)
      (length-map remaining (λ (k : List ℕ). (k, field_in old k))) (filter_few test doc.keys) c.few few_keys;
  some = some (length (fields ++ further)) (length fields) (length further) (length remaining) (length-append fields further)
      (length-map remaining (λ (k : List ℕ). (k, field_in old k))) (mark_some way policy columns doc side is key);
}
  where
    old : List (List ℕ × Field)
    old = made_side way policy columns side

    fields : List (List ℕ × Field)
    fields = made_fields way columns side

    test : List ℕ → Bool
    test k = is_implied policy && (is_among (names_of old) k && not (is_among (names_of fields) k))

    remaining : List (List ℕ)
    remaining = remaining_keys policy doc old (names_of fields)

    further : List (List ℕ × Field)
    further = map (λ (k : List ℕ). (k, field_in old k)) remaining

    count : (n a b m k r d : ℕ) → n ≡ a + b → a ≡ m → m ≤ k → b ≡ r → r ≤ d → k ≤ 64 → d ≤ 64 → n ≤ 128
    count n a b m k r d first second third fourth fifth sixth seventh = omega (arith, first, second, third, fourth, fifth, sixth, seventh)

    some : (n a b r : ℕ) → n ≡ a + b → b ≡ r → 1 ≤ a + r → 1 ≤ n
    some n a b r first second third = omega (arith, first, second, third)

    nothing : (k a b : ℕ) → k ≤ 64 → a ≤ 8003 * k → b ≡ 0 → a + b ≤ 535018
    nothing k a b first second third = omega (arith, first, second, third)

    sum : (n a b k l r d : ℕ) → n ≡ a + b → a ≤ 8003 * k → k ≤ 64 → b ≤ l + r → l ≤ 22762 → r ≤ d → d ≤ 64 → n ≤ 535018
    sum n a b k l r d first second third fourth fifth sixth seventh = omega (arith, first, second, third, fourth, fifth, sixth, seventh)

    short_implied : policy ≡ Implied → sum_of pair_cost (fields ++ further) ≤ 535018
    short_implied implied =
        sum (sum_of pair_cost (fields ++ further)) (sum_of pair_cost fields) (sum_of pair_cost further) (length columns) (sum_of pair_cost side.listed) (length remaining) (length doc.keys)
        (sum_append pair_cost fields further) (fields_cost way columns side is.sources_fit c.are) c.few looked is.narrow (filter_few test doc.keys) few_keys
      where
        each : All (λ (k : List ℕ). cost (field_in old k) ≤ cost (field_in side.listed k)) remaining
        each = mapped (λ (k : List ℕ). is_among (names_of fields) k ≡ false) (λ (k : List ℕ). cost (field_in old k) ≤ cost (field_in side.listed k)) remaining
            (λ k none. subst (λ (q : ColumnPolicy). cost (field_in (made_side way q columns side) k) ≤ cost (field_in side.listed k)) (sym implied)
            (kept_cost way columns side k (not_made way columns side k none)))
            (remaining_others policy doc old (names_of fields))

        sums : (ks : List (List ℕ)) → All (λ (k : List ℕ). cost (field_in old k) ≤ cost (field_in side.listed k)) ks
            → sum_of (λ (k : List ℕ). cost (field_in old k)) ks ≤ sum_of (λ (k : List ℕ). cost (field_in side.listed k)) ks
        sums [] less = omega arith
        sums (k ∷ ks) less = omega (
          arith,
          all_head (λ (k : List ℕ). cost (field_in old k) ≤ cost (field_in side.listed k)) k ks less,
          sums ks (all_tail (λ (k : List ℕ). cost (field_in old k) ≤ cost (field_in side.listed k)) k ks less),
        )

        join : (n a b m : ℕ) → n ≡ a → a ≤ b → b ≤ m → n ≤ m
        join n a b m first second third = omega (arith, first, second, third)

        looked : sum_of pair_cost further ≤ sum_of pair_cost side.listed + length remaining
        looked = join (sum_of pair_cost further) (sum_of (λ (k : List ℕ). cost (field_in old k)) remaining) (sum_of (λ (k : List ℕ). cost (field_in side.listed k)) remaining)
            (sum_of pair_cost side.listed + length remaining)
            (sum_map pair_cost (λ (k : List ℕ). (k, field_in old k)) remaining) (sums remaining each)
            (looked_up side.listed remaining (AllPairs-filter (λ (a b : List ℕ). bytes_eq a b ≡ false) test doc.keys distinct))

    short_specified : policy ≡ Specified → sum_of pair_cost (fields ++ further) ≤ 535018
    short_specified same =
        subst (λ (n : ℕ). n ≤ 535018) (sym (sum_append pair_cost fields further))
        (nothing (length columns) (sum_of pair_cost fields) (sum_of pair_cost further) c.few (fields_cost way columns side is.sources_fit c.are)
        (ap (λ (ks : List (List ℕ)). sum_of pair_cost (map (λ (k : List ℕ). (k, field_in old k)) ks))
        (filter_none test doc.keys (λ i d within. ap (λ (q : ColumnPolicy). is_implied q && (is_among (names_of old) (get_or doc.keys i d) && not (is_among (names_of fields) (get_or doc.keys i d)))) same))))

    by_policy : (p : ColumnPolicy) → policy ≡ p → sum_of pair_cost (fields ++ further) ≤ 535018
    by_policy Specified same = short_specified same
    by_policy Implied same = short_implied same
