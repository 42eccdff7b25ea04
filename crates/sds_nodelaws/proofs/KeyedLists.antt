-- Lists that ascend by a key, and what holds of each item and of each pair of them.
use Rattle.std.proofs.Common.{◌≡◌, ℕ, suc, ◌+◌, ◌<◌, ◌≤◌, Bool, true, false, cond, List, [], ◌∷◌, ◌++◌, length, map, get_or, Some, refl, sym, ap, subst, ◌∙◌, arith, true≢false, filter, All, AllPairs, is_lt, nat_cmp}
use Rattle.std.specs.Cmp.Lexicographic.{slice_cmp}
use Rattle.std.specs.List.{enumerate_from, position, range_with_len}
use Rattle.std.specs.Ordering.{ordering_reverse}
use Rattle.std.proofs.lemmas.Cmp.{nat_list_cmp_total}
use Rattle.std.proofs.lemmas.List.{length-append}
use Rattle.std.proofs.lemmas.List.Elements.{All-nil, All-cons, All-append}
use Rattle.std.proofs.lemmas.List.Kept.{AllPairs-cons, AllPairs-filter}
use Rattle.std.proofs.lemmas.List.Quantifiers.{position-Some}
use Rattle.sds_trade.proofs.Lists.{all_head, all_tail, pairs_append, pairs_head, pairs_tail, passes}
use Rattle.sds_trade.proofs.TableLaws.{less_is}
use Rattle.sds_history.specs.history.Orders.{is_before, with_item}
use Rattle.sds_history.specs.history.SoundParts.{AscendBy, AscendByNumber}
use Rattle.sds_nodelaws.proofs.Held.{all_of, mapped}
use Rattle.sds_nodelaws.proofs.Lists.{Ascending, In, all_in, ascending_range, filter_all, in_all, in_filter, least_in_range, map_all, unmap_all}
use Rattle.sds_nodelaws.proofs.Lists.Either.{left, right}

-- KEYS are in a total order
before_then : (a b c : List ℕ) → is_before a b ≡ true → is_before b c ≡ true → is_before a c ≡ true
before_then a b c first second =
    ap is_lt (nat_list_cmp_total.trans a b c (less_is (slice_cmp nat_cmp a b) first) (less_is (slice_cmp nat_cmp b c) second))

not_both : (a b : List ℕ) → is_before a b ≡ true → is_before b a ≡ false
not_both a b is = ap is_lt (nat_list_cmp_total.antisymm b a ∙ ap ordering_reverse (less_is (slice_cmp nat_cmp a b) is))

pub never_before_itself : {G : Type 0} (a : List ℕ) → is_before a a ≡ true → G
never_before_itself a is = absurd (true≢false (sym is ∙ not_both a a is))

-- PAIRS
pub pairs_nil : {X : Type 0} (R : X → X → Type 0) → AllPairs R []
pairs_nil R i j d below within = absurd (omega (arith, within))

pub pairs_both : {X : Type 0} (R Q : X → X → Type 0) (xs : List X) → AllPairs R xs → AllPairs Q xs → AllPairs (λ a b. R a b × Q a b) xs
pairs_both R Q xs first second i j d below within = (first i j d below within, second i j d below within)

pub pairs_mapped : {X : Type 0} (P : X → Type 0) (R Q : X → X → Type 0) (f : X → X) (xs : List X) → All P xs → AllPairs R xs
    → ((a b : X) → P a → P b → R a b → Q (f a) (f b)) → AllPairs Q (map f xs)
pairs_mapped P R Q f [] are pairs gives = pairs_nil Q
pairs_mapped P R Q f (x ∷ xs) are pairs gives =
    AllPairs-cons Q (f x) (map f xs)
    (map_all (Q (f x)) f xs (λ k d within.
    gives x (get_or xs k d) (all_head P x xs are) (all_tail P x xs are k d within) (pairs_head R x xs pairs k d within)))
    (pairs_mapped P R Q f xs (all_tail P x xs are) (pairs_tail R x xs pairs) gives)

-- ITEMS of a list that keeps one item a key
pub item_all : {A : Type 0} (P : A → Type 0) (key : A → List ℕ) (new : A) (items : List A) → P new → All P items → All P (with_item key new items)
item_all P key new items is are =
    All-append P (filter (λ item. is_before (key item) (key new)) items) (new ∷ filter (λ item. is_before (key new) (key item)) items)
    (filter_all P (λ item. is_before (key item) (key new)) items are)
    (All-cons P new (filter (λ item. is_before (key new) (key item)) items) is (filter_all P (λ item. is_before (key new) (key item)) items are))

pub item_ascends : {A : Type 0} (key : A → List ℕ) (new : A) (items : List A) → AscendBy key items → AscendBy key (with_item key new items)
item_ascends {A} key new items are =
    let R = λ (a b : A). is_before (key a) (key b) ≡ true in
    let below = λ (item : A). is_before (key item) (key new) in
    let above = λ (item : A). is_before (key new) (key item) in
    pairs_append R (filter below items) (new ∷ filter above items) (AllPairs-filter R below items are)
    (AllPairs-cons R new (filter above items) (passes above items) (AllPairs-filter R above items are))
    (λ k d within.
    let x = get_or (filter below items) k d in
    let first : R x new = passes below items k d within in
    All-cons (R x) new (filter above items) first
    (λ j e inside. before_then (key x) (key new) (key (get_or (filter above items) j e)) first (passes above items j e inside)))

-- two tests that no item passes both
pub two_filters : {A : Type 0} (p q : A → Bool) (items : List A) → ((x : A) → p x ≡ true → q x ≡ false)
    → length (filter p items) + length (filter q items) ≤ length items
two_filters p q [] apart = omega arith
two_filters p q (x ∷ xs) apart = two_on (p x) (q x) refl refl (two_filters p q xs apart)
  where
    two_on : (a b : Bool) → p x ≡ a → q x ≡ b → length (filter p xs) + length (filter q xs) ≤ length xs
        → length (cond a (x ∷ filter p xs) (filter p xs)) + length (cond b (x ∷ filter q xs) (filter q xs)) ≤ suc (length xs)
    two_on true true is other rest = absurd (true≢false (sym other ∙ apart x is))
    two_on true false is other rest = omega (arith, rest)
    two_on false true is other rest = omega (arith, rest)
    two_on false false is other rest = omega (arith, rest)

pub item_length : {A : Type 0} (key : A → List ℕ) (new : A) (items : List A) → length (with_item key new items) ≤ length items + 1
item_length {A} key new items =
    let below = λ (item : A). is_before (key item) (key new) in
    let above = λ (item : A). is_before (key new) (key item) in
    one_more (length (filter below items)) (length (filter above items)) (length items) (length (with_item key new items))
    (length-append (filter below items) (new ∷ filter above items))
    (two_filters below above items (λ x is. not_both (key x) (key new) is))
  where
    one_more : (a b n all : ℕ) → all ≡ a + suc b → a + b ≤ n → all ≤ n + 1
    one_more a b n all is less = omega (arith, is, less)

-- of two items of which the one's key comes first the one comes first
ordered : {A : Type 0} (key : A → List ℕ) (R : A → A → Type 0) (items : List A) → AscendBy key items → AllPairs R items
    → (x y : A) → In x items → In y items → is_before (key x) (key y) ≡ true → R x y
ordered key R [] ascend pairs x y first second less = absurd first
ordered {A} key R (z ∷ zs) ascend pairs x y (left one) (left other) less =
    never_before_itself (key z) (subst (λ (a : A). is_before (key a) (key z) ≡ true) one (subst (λ (b : A). is_before (key x) (key b) ≡ true) other less))
ordered {A} key R (z ∷ zs) ascend pairs x y (left one) (right rest) less =
    subst (λ (a : A). R a y) (sym one) (all_in (R z) y zs (pairs_head R z zs pairs) rest)
ordered {A} key R (z ∷ zs) ascend pairs x y (right rest) (left other) less =
    let after : is_before (key z) (key x) ≡ true =
    all_in (λ (a : A). is_before (key z) (key a) ≡ true) x zs (pairs_head (λ (a b : A). is_before (key a) (key b) ≡ true) z zs ascend) rest in
    never_before_itself (key z) (before_then (key z) (key x) (key z) after (subst (λ (b : A). is_before (key x) (key b) ≡ true) other less))
ordered {A} key R (z ∷ zs) ascend pairs x y (right one) (right other) less =
    ordered key R zs (pairs_tail (λ (a b : A). is_before (key a) (key b) ≡ true) z zs ascend) (pairs_tail R z zs pairs) x y one other less

in_passes : {A : Type 0} (p : A → Bool) (x : A) (items : List A) → In x (filter p items) → p x ≡ true
in_passes {A} p x items is = all_in (λ (y : A). p y ≡ true) x (filter p items) (passes p items) is

pub pairs_item : {A : Type 0} (key : A → List ℕ) (R : A → A → Type 0) (new : A) (items : List A) → AscendBy key items → AllPairs R items
    → ((x : A) → R x new) → ((x : A) → R new x) → AllPairs R (with_item key new items)
pairs_item {A} key R new items ascend pairs before after =
    let below = λ (item : A). is_before (key item) (key new) in
    let above = λ (item : A). is_before (key new) (key item) in
    pairs_append R (filter below items) (new ∷ filter above items) (AllPairs-filter R below items pairs)
    (AllPairs-cons R new (filter above items) (all_of (R new) (filter above items) after) (AllPairs-filter R above items pairs))
    (in_all (λ (x : A). All (R x) (new ∷ filter above items)) (filter below items)
    (λ x is. All-cons (R x) new (filter above items) (before x)
    (in_all (R x) (filter above items) (λ y other.
    ordered key R items ascend pairs x y (in_filter below x items is) (in_filter above y items other)
    (before_then (key x) (key new) (key y) (in_passes below x items is) (in_passes above y items other))))))

-- items that are changed but for their keys
pub keys_stay : {A : Type 0} (key : A → List ℕ) (f : A → A) (items : List A) → ((x : A) → key (f x) ≡ key x) → AscendBy key items → AscendBy key (map f items)
keys_stay {A} key f items same are =
    pairs_mapped (λ (x : A). Unit {0}) (λ (a b : A). is_before (key a) (key b) ≡ true) (λ (a b : A). is_before (key a) (key b) ≡ true) f items
    (all_of (λ (x : A). Unit {0}) items (λ x. tt)) are
    (λ a b _ _ less. subst (λ k. is_before k (key (f b)) ≡ true) (sym (same a)) (subst (λ k. is_before (key a) k ≡ true) (sym (same b)) less))

-- NUMBERS that go on after the last
pairs_ascending : {X : Type 0} (number : X → ℕ) (xs : List X) → Ascending number xs → AscendByNumber number xs
pairs_ascending {X} number [] are = pairs_nil (λ (a b : X). number a < number b)
pairs_ascending {X} number (x ∷ xs) are = AllPairs-cons (λ (a b : X). number a < number b) x xs are.0 (pairs_ascending number xs are.1)

pub numbers_go_on : {X : Type 0} (number : X → ℕ) (old new : List X) (last count : ℕ) → AscendByNumber number old → All (λ x. number x ≤ last) old
    → map number new ≡ range_with_len (last + 1) count → AscendByNumber number (old ++ new)
numbers_go_on {X} number old new last count ascend within is =
    let R = λ (a b : X). number a < number b in
    let above : All (λ (x : X). last + 1 ≤ number x) new =
    unmap_all (λ (k : ℕ). last + 1 ≤ k) number new (subst (All (λ (k : ℕ). last + 1 ≤ k)) (sym is) (least_in_range (last + 1) count)) in
    pairs_append R old new ascend (pairs_ascending number new (ascending_range number new (last + 1) count is))
    (mapped (λ (x : X). number x ≤ last) (λ (x : X). All (R x) new) old
    (λ x low. mapped (λ (y : X). last + 1 ≤ number y) (R x) new (λ y high. below (number x) last (number y) low high) above) within)
  where
    below : (a b c : ℕ) → a ≤ b → b + 1 ≤ c → a < c
    below a b c low high = omega (arith, low, high)

-- PLACES
pub position_within : {X : Type 0} (p : X → Bool) (xs : List X) (place : ℕ) → position p xs ≡ Some place → place < length xs
position_within p [] place is = absurd (cc)
position_within p (x ∷ xs) place is = (position-Some p (x ∷ xs) place x is).0

pub placed_all : {X : Type 0} (P : X → Type 0) (n : ℕ) (xs : List X) → All P xs → All (λ (at : ℕ × X). P at.1) (enumerate_from n xs)
placed_all {X} P n [] are = All-nil (λ (at : ℕ × X). P at.1)
placed_all {X} P n (x ∷ xs) are =
    All-cons (λ (at : ℕ × X). P at.1) (n, x) (enumerate_from (n + 1) xs) (all_head P x xs are) (placed_all P (n + 1) xs (all_tail P x xs are))

pub places_within : {X : Type 0} (n : ℕ) (xs : List X) → All (λ (at : ℕ × X). at.0 < n + length xs) (enumerate_from n xs)
places_within {X} n [] = All-nil (λ (at : ℕ × X). at.0 < n + 0)
places_within {X} n (x ∷ xs) =
    All-cons (λ (at : ℕ × X). at.0 < n + suc (length xs)) (n, x) (enumerate_from (n + 1) xs) (here n (length xs))
    (mapped (λ (at : ℕ × X). at.0 < (n + 1) + length xs) (λ (at : ℕ × X). at.0 < n + suc (length xs)) (enumerate_from (n + 1) xs)
    (λ at less. later n (length xs) at.0 less) (places_within (n + 1) xs))
  where
    here : (b m : ℕ) → b < b + suc m
    here b m = omega arith

    later : (b m k : ℕ) → k < (b + 1) + m → k < b + suc m
    later b m k less = omega (arith, less)
