-- The key of a made row: what its fields take at most.
use Rattle.std.proofs.Common.{◌≡◌, ℕ, suc, ◌+◌, ◌*◌, ◌≤◌, Bool, true, false, cond, not, ◌&&◌, List, [], ◌∷◌, ◌++◌, length, Option, None, Some, refl, sym, ap, subst, ◌∙◌, arith, true≢false, All, filter, get_or}
use Rattle.std.proofs.lemmas.List.{length-map}
use Rattle.std.proofs.lemmas.List.Elements.{All-nil, All-cons}
use Rattle.std.proofs.lemmas.List.Kept.{AllPairs-filter}
use Rattle.std.specs.Str.{bytes_eq}
use Rattle.sds_value.specs.declared.row.DocRow.{DocRow}
use Rattle.sds_value.specs.declared.row.Field.{Field}
use Rattle.sds_types.specs.declared.transform.ColumnPolicy.{ColumnPolicy}
use Rattle.sds_types.specs.declared.transform.ColumnPolicy.TheVariants.{Specified, Implied}
use Rattle.sds_types.specs.declared.transform_column.TransformColumn.{TransformColumn}
use Rattle.sds_types.specs.declared.way.Way.{Way}
use Rattle.sds_trade.specs.rules.DocRows.{field_in}
use Rattle.sds_trade.specs.rules.MadeSides.{column_for, is_further, is_implied, made_fields, made_keys, made_side, names_of, passed_fields, pk_targets, remaining_keys}
use Rattle.sds_trade.specs.rules.Places.{is_among}
use Rattle.sds_trade.specs.rules.Sides.{Side}
use Rattle.sds_trade.proofs.Lists.{all_head, all_tail}
use Rattle.sds_nodelaws.proofs.Lists.{In, all_in, filter_all, filter_none, in_all, in_filter, in_map}
use Rattle.sds_nodelaws.proofs.Tests.{or_left, or_right}
use Rattle.sds_doclaws.proofs.Keys.{among_in, in_among, in_kept, remaining_others}
use Rattle.sds_doclaws.proofs.Marks.{NotMade, found_first, none_made, passes_by, same_cost}
use Rattle.sds_doclaws.proofs.Sides.{TakePart, IsMade, IsSide, found_fits, is_for}
use Rattle.sds_doclaws.proofs.Sums.{Distinct, columns_sum, filter_few, is_other, looked_up, pair_cost, replaced, sum_append, sum_most}
use Rattle.sds_doclaws.proofs.Weights.{cost, sum_of}

-- FILTERS that keep other elements
parted : {X : Type 0} (p : X → Bool) (xs : List X) → length (filter (λ x. not (p x)) xs) + length (filter p xs) ≡ length xs
parted p [] = refl
parted {X} p (x ∷ xs) = on (p x) (parted p xs)
  where
    on : (b : Bool) → length (filter (λ (y : X). not (p y)) xs) + length (filter p xs) ≡ length xs
        → length (cond (not b) (x ∷ filter (λ (y : X). not (p y)) xs) (filter (λ (y : X). not (p y)) xs)) + length (cond b (x ∷ filter p xs) (filter p xs)) ≡ suc (length xs)
    on true same = omega (arith, same)
    on false same = omega (arith, same)

record AreApart {X : Type 0} (p q r : X → Bool) (x : X) : Type 0 where
  first : p x ≡ true → r x ≡ true
  second : q x ≡ true → r x ≡ true
  other : q x ≡ true → p x ≡ false

apart_sum : {X : Type 0} (p q r : X → Bool) (xs : List X) → All (AreApart p q r) xs → length (filter p xs) + length (filter q xs) ≤ length (filter r xs)
apart_sum p q r [] are = omega arith
apart_sum {X} p q r (x ∷ xs) are = on (p x) refl (q x) refl (r x) refl (apart_sum p q r xs (all_tail (AreApart p q r) x xs are))
  where
    one : AreApart p q r x
    one = all_head (AreApart p q r) x xs are

    on : (a : Bool) → p x ≡ a → (b : Bool) → q x ≡ b → (c : Bool) → r x ≡ c → length (filter p xs) + length (filter q xs) ≤ length (filter r xs)
        → length (cond a (x ∷ filter p xs) (filter p xs)) + length (cond b (x ∷ filter q xs) (filter q xs)) ≤ length (cond c (x ∷ filter r xs) (filter r xs))
    on true ip true iq c ir rest = absurd (true≢false (sym ip ∙ one.other iq))
    on true ip false iq true ir rest = omega (arith, rest)
    on true ip false iq false ir rest = absurd (true≢false (sym (one.first ip) ∙ ir))
    on false ip true iq true ir rest = omega (arith, rest)
    on false ip true iq false ir rest = absurd (true≢false (sym (one.second iq) ∙ ir))
    on false ip false iq true ir rest = omega (arith, rest)
    on false ip false iq false ir rest = rest

-- A FIELD of a made side: that of the source, or one that a column makes
none_targets : (columns : List TransformColumn) (key : List ℕ) → column_for columns key ≡ None → All (NotMade key) columns
none_targets [] key none = All-nil (NotMade key)
none_targets (c ∷ cs) key none = on (bytes_eq c.target key) refl none (λ rest. none_targets cs key rest)
  where
    on : (b : Bool) → bytes_eq c.target key ≡ b → cond b (Some c) (column_for cs key) ≡ None → (column_for cs key ≡ None → All (NotMade key) cs) → All (NotMade key) (c ∷ cs)
    on true is none rest = absurd (cc)
    on false is none rest = All-cons (NotMade key) c cs (λ made. is) (rest none)

field_cost : (way : Way) (columns : List TransformColumn) (side : Side) (key : List ℕ) → IsMade (made_side way Implied columns side)
    → cost (field_in (made_side way Implied columns side) key) ≤ cost (field_in side.listed key) + replaced (column_for columns key)
field_cost way columns side key made = on (column_for columns key) refl
  where
    old : List (List ℕ × Field)
    old = made_side way Implied columns side

    plain : (a b c : ℕ) → a ≤ b → c ≡ 0 → a ≤ b + c
    plain a b c first second = omega (arith, first, second)

    wide : (a b c : ℕ) → a ≤ 8003 → c ≡ 8003 → a ≤ b + c
    wide a b c first second = omega (arith, first, second)

    on : (found : Option TransformColumn) → column_for columns key ≡ found → cost (field_in old key) ≤ cost (field_in side.listed key) + replaced (column_for columns key)
    on None is = plain (cost (field_in old key)) (cost (field_in side.listed key)) (replaced (column_for columns key))
        (same_cost (field_in old key) (field_in side.listed key)
        (found_first (passed_fields way columns side) (made_fields way (filter (is_further side) columns) side) key
        (none_made way (filter (is_further side) columns) side key (filter_all (NotMade key) (is_further side) columns (none_targets columns key is)))
        ∙ passes_by way columns side side.listed key is))
        (ap replaced is)
    on (Some c) is = wide (cost (field_in old key)) (cost (field_in side.listed key)) (replaced (column_for columns key))
        (found_fits old key (λ j e inside. (made.pairs j e inside).1)).short (ap replaced is)

sums_two : {X : Type 0} (f g h : X → ℕ) (xs : List X) → ((x : X) → f x ≤ g x + h x) → sum_of f xs ≤ sum_of g xs + sum_of h xs
sums_two f g h [] less = omega arith
sums_two f g h (x ∷ xs) less = omega (arith, less x, sums_two f g h xs less)

-- KEYS. Those that are listed, and those of the source that remain: at most 61 made fields, all
-- fields of the source, and a comma more for each of its keys: 61 * 8,003 + 22,762 + 64 bytes
listed_cost : (columns : List TransformColumn) (old : List (List ℕ × Field)) → IsMade old
    → sum_of (λ (n : List ℕ). cost (field_in old n)) (pk_targets columns) ≤ 8003 * length (filter (λ (c : TransformColumn). c.pk) columns)
listed_cost columns old made =
    subst (λ (n : ℕ). sum_of (λ (k : List ℕ). cost (field_in old k)) (pk_targets columns) ≤ 8003 * n)
    (length-map (filter (λ (c : TransformColumn). c.pk) columns) (λ (c : TransformColumn). c.target))
    (sum_most (λ (n : List ℕ). cost (field_in old n)) (pk_targets columns)
    (λ i d within. (found_fits old (get_or (pk_targets columns) i d) (λ j e inside. (made.pairs j e inside).1)).short))

for_keys : (columns : List TransformColumn) (doc : DocRow) (policy : ColumnPolicy) (made : List (List ℕ × Field))
    → length (filter (λ (c : TransformColumn). c.pk) columns) + length (filter (λ (c : TransformColumn). is_among (remaining_keys policy doc made (pk_targets columns)) c.target) columns)
    ≤ length (filter (is_for doc.keys) columns)
for_keys columns doc policy made =
    apart_sum (λ (c : TransformColumn). c.pk) (λ (c : TransformColumn). is_among remaining c.target) (is_for doc.keys) columns
    (in_all (AreApart (λ (c : TransformColumn). c.pk) (λ (c : TransformColumn). is_among remaining c.target) (is_for doc.keys)) columns each)
  where
    test : List ℕ → Bool
    test key = is_implied policy && (is_among (names_of made) key && not (is_among (pk_targets columns) key))

    remaining : List (List ℕ)
    remaining = remaining_keys policy doc made (pk_targets columns)

    no_pk : (c : TransformColumn) (b : Bool) → In c columns → c.pk ≡ b → is_among remaining c.target ≡ true → c.pk ≡ false
    no_pk c true is pk among =
        let none = all_in (λ (key : List ℕ). is_among (pk_targets columns) key ≡ false) c.target remaining (remaining_others policy doc made (pk_targets columns)) (among_in remaining c.target among) in
        absurd (true≢false (sym (in_among (pk_targets columns) c.target
        (in_map (λ (d : TransformColumn). d.target) c (filter (λ (d : TransformColumn). d.pk) columns) (in_kept (λ (d : TransformColumn). d.pk) c columns is pk))) ∙ none))
    no_pk c false is pk among = pk

    each : (c : TransformColumn) → In c columns → AreApart (λ (d : TransformColumn). d.pk) (λ (d : TransformColumn). is_among remaining d.target) (is_for doc.keys) c
    each c is = record {
      first = λ pk. or_left c.pk (is_among doc.keys c.target) pk;
      second = λ among. or_right c.pk (is_among doc.keys c.target) (in_among doc.keys c.target (in_filter test c.target doc.keys (among_in remaining c.target among)));
      other = λ among. no_pk c c.pk is refl among;
    }

pub key_fields_short : (way : Way) (policy : ColumnPolicy) (columns : List TransformColumn) (doc : DocRow) (side : Side) (made : List (List ℕ × Field)) → TakePart way policy doc.keys columns
    → IsSide doc.columns side → IsMade (made_side way policy columns side) → Distinct doc.keys → length doc.keys ≤ 64
    → sum_of (λ (n : List ℕ). cost (field_in (made_side way policy columns side) n)) (made_keys policy columns doc made) ≤ 511009
key_fields_short way Specified columns doc side made c is old_made distinct few =
    on (sum_of costs (pk_targets columns ++ remaining_keys Specified doc made (pk_targets columns))) (sum_of costs (pk_targets columns))
    (sum_of costs (remaining_keys Specified doc made (pk_targets columns))) (length (filter (λ (d : TransformColumn). d.pk) columns))
    (sum_append costs (pk_targets columns) (remaining_keys Specified doc made (pk_targets columns)))
    (listed_cost columns (made_side way Specified columns side) old_made)
    (ap (sum_of costs) (filter_none (λ (key : List ℕ). is_implied Specified && (is_among (names_of made) key && not (is_among (pk_targets columns) key))) doc.keys (λ i d within. refl)))
    c.few_pks
  where
    costs : List ℕ → ℕ
    costs n = cost (field_in (made_side way Specified columns side) n)

    on : (n a b k : ℕ) → n ≡ a + b → a ≤ 8003 * k → b ≡ 0 → k ≤ 32 → n ≤ 511009
    on n a b k first second third fourth = omega (arith, first, second, third, fourth)
key_fields_short way Implied columns doc side made c is old_made distinct few =
    on (sum_of costs (pk_targets columns ++ remaining)) (sum_of costs (pk_targets columns)) (sum_of costs remaining) (length (filter (λ (d : TransformColumn). d.pk) columns))
    (sum_of (λ (n : List ℕ). cost (field_in side.listed n)) remaining) (sum_of (λ (n : List ℕ). replaced (column_for columns n)) remaining)
    (sum_of pair_cost side.listed) (length remaining) (length doc.keys) (length (filter (is_other remaining) columns)) (length (filter among columns)) (length columns)
    (length (filter (is_for doc.keys) columns))
    (sum_append costs (pk_targets columns) remaining) (listed_cost columns old old_made)
    (sums_two costs (λ (n : List ℕ). cost (field_in side.listed n)) (λ (n : List ℕ). replaced (column_for columns n)) remaining (λ n. field_cost way columns side n old_made))
    (looked_up side.listed remaining apart) is.narrow (filter_few test doc.keys) few
    (columns_sum columns remaining apart) (parted among columns) (for_keys columns doc Implied made) (c.few_keys refl)
  where
    old : List (List ℕ × Field)
    old = made_side way Implied columns side

    costs : List ℕ → ℕ
    costs n = cost (field_in old n)

    test : List ℕ → Bool
    test key = is_implied Implied && (is_among (names_of made) key && not (is_among (pk_targets columns) key))

    remaining : List (List ℕ)
    remaining = remaining_keys Implied doc made (pk_targets columns)

    among : TransformColumn → Bool
    among d = is_among remaining d.target

    apart : Distinct remaining
    apart = AllPairs-filter (λ (a b : List ℕ). bytes_eq a b ≡ false) test doc.keys distinct

    on : (n a b p l s w r d o m k f : ℕ) → n ≡ a + b → a ≤ 8003 * p → b ≤ l + s → l ≤ w + r → w ≤ 22762 → r ≤ d → d ≤ 64
        → s + 8003 * o ≤ 8003 * k → o + m ≡ k → p + m ≤ f → f ≤ 61 → n ≤ 511009
    on n a b p l s w r d o m k f h1 h2 h3 h4 h5 h6 h7 h8 h9 h10 h11 = omega (arith, h1, h2, h3, h4, h5, h6, h7, h8, h9, h10, h11)
