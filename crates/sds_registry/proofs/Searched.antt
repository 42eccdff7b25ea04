-- What a search among items that ascend by key finds, and what an item put in at that place gives.
use Rattle.std.proofs.Common.{◌≡◌, ℕ, zero, suc, ◌≤◌, ◌<◌, ◌⊎◌, inl, inr, Bool, true, false, List, [], ◌∷◌, ◌++◌, length, take, drop, drop-cons, get_or, Result, Ok, Err, MatchResult, refl, sym, ap, subst, ◌∙◌, arith, All, filter, Ordering, Less, Equal, Greater, nat_cmp, slice_set}
use Rattle.std.specs.Cmp.Lexicographic.{slice_cmp}
use Rattle.std.specs.List.{insert}
use Rattle.std.specs.List.Sorted.{IsBinarySearchResult, IsNonDecreasingBy, IsSearchInRange}
use Rattle.std.specs.Ordering.{is_lt, ordering_index, ordering_reverse}
use Rattle.std.proofs.lemmas.Cmp.{nat_list_cmp_total}
use Rattle.std.proofs.lemmas.List.{append-nil, set_split, take-append-drop}
use Rattle.std.proofs.lemmas.List.Elements.{All-cons, All-weaker, filter-append}
use Rattle.std.proofs.lemmas.List.Kept.{AllPairs-cons, AllPairs-filter}
use Rattle.std.proofs.lemmas.Map.Lookups.{exact_bytes}
use Rattle.sds_rows.proofs.Places.{all_drop, all_take, filter_all, filter_none}
use Rattle.sds_trade.proofs.Lists.{pairs_append, passes}
use Rattle.sds_trade.proofs.TableLaws.{less_is}
use Rattle.sds_history.specs.history.Orders.{is_before, with_item}
use Rattle.sds_history.specs.history.SoundParts.{AscendBy}
use Rattle.sds_registry.specs.Places.{BelongsAt, StandsAt}

-- KEYS
abbrev order : List ℕ → List ℕ → Ordering
order a b = slice_cmp nat_cmp a b

turned : (a b : List ℕ) → order a b ≡ ordering_reverse (order b a)
turned a b = nat_list_cmp_total.antisymm a b

not_less : (o : Ordering) → o ≡ ordering_reverse o → is_lt o ≡ false
not_less Less is = ap (λ p. elim p [ Less ↦ true | Equal ↦ false | Greater ↦ false ]) is
not_less Equal is = refl
not_less Greater is = refl

pub not_before_itself : (a : List ℕ) → is_before a a ≡ false
not_before_itself a = not_less (order a a) (turned a a)

not_back : (a b : List ℕ) → is_before a b ≡ true → is_before b a ≡ false
not_back a b less = ap is_lt (turned b a ∙ ap ordering_reverse (less_is (order a b) less))

before_above : (a b : List ℕ) → order a b ≡ Greater → is_before b a ≡ true
before_above a b greater = ap is_lt (turned b a ∙ ap ordering_reverse greater)

before_trans : (a b c : List ℕ) → is_before a b ≡ true → is_before b c ≡ true → is_before a c ≡ true
before_trans a b c first second =
    ap is_lt (nat_list_cmp_total.trans a b c (less_is (order a b) first) (less_is (order b c) second))

index_top : (o : Ordering) → ordering_index o ≤ 2
index_top Less = omega arith
index_top Equal = omega arith
index_top Greater = omega arith

rises_by : (a b w : List ℕ) (o : Ordering) → order b w ≡ o → order a b ≡ Less → ordering_index (order a w) ≤ ordering_index o
rises_by a b w Less is less = rw (nat_list_cmp_total.trans a b w less is) (omega arith)
rises_by a b w Equal is less = rw (subst (λ k. order a k ≡ Less) (exact_bytes b w is) less) (omega arith)
rises_by a b w Greater is less = index_top (order a w)

apart : (i j : ℕ) → i ≤ j → (i ≡ j) ⊎ (i < j)
apart zero zero le = inl refl
apart zero (suc j) le = inr (omega arith)
apart (suc i) zero le = absurd (omega arith)
apart (suc i) (suc j) le = elim (apart i j (omega arith)) [
  | inl same ↦ inl (ap suc same)
  | inr less ↦ inr (omega arith)
]

-- WHAT A SEARCH FINDS
module _ {A : Type 0} (key : A → List ℕ) (wanted : List ℕ) (items : List A) (are : AscendBy key items) where
  rises : IsNonDecreasingBy (λ item. ordering_index (order (key item) wanted)) items
  rises i j d le within = elim (apart i j le) [
    | inl same ↦ subst (λ k. ordering_index (order (key (get_or items i d)) wanted) ≤ ordering_index (order (key (get_or items k d)) wanted)) same (omega arith)
    | inr less ↦ rises_by (key (get_or items i d)) (key (get_or items j d)) wanted (order (key (get_or items j d)) wanted) refl
        (less_is (order (key (get_or items i d)) (key (get_or items j d))) (are i j d less within))
  ]

  pub searched : (r : Result ℕ ℕ) → IsSearchInRange r (length items) → IsBinarySearchResult (λ item. order (key item) wanted) items r
      → MatchResult r (StandsAt key wanted items) (BelongsAt key wanted items)
  searched (Ok at) within equal =
      let there : (d : A) → key (get_or items at d) ≡ wanted = λ d. exact_bytes (key (get_or items at d)) wanted (equal d) in
      record {
        within = within;
        below = all_take (λ item. is_before (key item) wanted ≡ true) items at (omega arith)
            (λ k d from lower. subst (λ w. is_before (key (get_or items k d)) w ≡ true) (there d) (are k at d lower within));
        there = there;
        above = all_drop (λ item. is_before wanted (key item) ≡ true) items (suc at)
            (λ k d from lower. subst (λ w. is_before w (key (get_or items k d)) ≡ true) (there d) (are at k d from lower));
      }
  searched (Err at) within parted = let parts = parted rises in record {
    within = within;
    below = all_take (λ item. is_before (key item) wanted ≡ true) items at within (λ k d from lower. ap is_lt (parts.0 k d from lower));
    above = all_drop (λ item. is_before wanted (key item) ≡ true) items at (λ k d from lower. before_above (key (get_or items k d)) wanted (parts.1 k d from lower));
  }

-- WHAT IS PUT IN. An item among those below and those above it
module _ {A : Type 0} (key : A → List ℕ) (new : A) where
  abbrev low : A → Bool
  low item = is_before (key item) (key new)

  abbrev high : A → Bool
  high item = is_before (key new) (key item)

  low_of : (before middle after : List A) → All (λ item. low item ≡ true) before → All (λ item. low item ≡ false) middle → All (λ item. high item ≡ true) after
      → filter low (before ++ (middle ++ after)) ≡ before
  low_of before middle after below same above =
      filter-append low before (middle ++ after)
      ∙ (ap (λ ys. ys ++ filter low (middle ++ after)) (filter_all low before below)
      ∙ (ap (λ ys. before ++ ys) (filter-append low middle after
      ∙ (ap (λ ys. ys ++ filter low after) (filter_none low middle same)
      ∙ filter_none low after (All-weaker (λ item. high item ≡ true) (λ item. low item ≡ false) (λ item. not_back (key new) (key item)) after above)))
      ∙ append-nil before))

  high_of : (before middle after : List A) → All (λ item. low item ≡ true) before → All (λ item. high item ≡ false) middle → All (λ item. high item ≡ true) after
      → filter high (before ++ (middle ++ after)) ≡ after
  high_of before middle after below same above =
      filter-append high before (middle ++ after)
      ∙ (ap (λ ys. ys ++ filter high (middle ++ after)) (filter_none high before (All-weaker (λ item. low item ≡ true) (λ item. high item ≡ false) (λ item. not_back (key item) (key new)) before below))
      ∙ (filter-append high middle after
      ∙ (ap (λ ys. ys ++ filter high after) (filter_none high middle same)
      ∙ filter_all high after above)))

  placed : (before middle after items : List A) → before ++ (middle ++ after) ≡ items → All (λ item. low item ≡ true) before
      → All (λ item. low item ≡ false) middle → All (λ item. high item ≡ false) middle → All (λ item. high item ≡ true) after
      → before ++ new ∷ after ≡ with_item key new items
  placed before middle after items parts below low_not high_not above =
      subst (λ xs. before ++ new ∷ after ≡ with_item key new xs) parts
      (sym (ap (λ ys. ys ++ new ∷ filter high (before ++ (middle ++ after))) (low_of before middle after below low_not above)
      ∙ ap (λ ys. before ++ new ∷ ys) (high_of before middle after below high_not above)))

  single : (P : A → Type 0) (x : A) → P x → All P (x ∷ [])
  single P x is = All-cons P x [] is (λ k d within. absurd (omega arith))

  element : (xs : List A) (at : ℕ) → at < length xs → (x : A) × (x ≡ get_or xs at x)
  element [] at within = absurd (omega arith)
  element (x ∷ xs) zero within = (x, refl)
  element (x ∷ xs) (suc at) within = element xs at (omega arith)

  -- in the place of the one that has its key, or between its neighbours
  module _ (items slice : List A) (same : slice ≡ items) (at : ℕ) where
    pub put_over : StandsAt key (key new) slice at → slice_set items at new ≡ with_item key new items
    put_over found =
        let stands : StandsAt key (key new) items at = subst (λ xs. StandsAt key (key new) xs at) same found in
        let x = element items at stands.within in
        let has : key x.0 ≡ key new = subst (λ y. key y ≡ key new) (sym x.1) (stands.there x.0) in
        let parts : take at items ++ (x.0 ∷ [] ++ drop (suc at) items) ≡ items =
        ap (λ ys. take at items ++ ys) (sym (drop-cons items at x.0 stands.within ∙ ap (λ y. y ∷ drop (suc at) items) (sym x.1))) ∙ take-append-drop at items in
        set_split items at new stands.within
        ∙ placed (take at items) (x.0 ∷ []) (drop (suc at) items) items parts stands.below
        (single (λ item. low item ≡ false) x.0 (subst (λ k. is_before k (key new) ≡ false) (sym has) (not_before_itself (key new))))
        (single (λ item. high item ≡ false) x.0 (subst (λ k. is_before (key new) k ≡ false) (sym has) (not_before_itself (key new))))
        stands.above

    pub put_between : BelongsAt key (key new) slice at → insert items at new ≡ with_item key new items
    put_between found =
        let belongs : BelongsAt key (key new) items at = subst (λ xs. BelongsAt key (key new) xs at) same found in
        placed (take at items) [] (drop at items) items (take-append-drop at items) belongs.below
        (λ k d within. absurd (omega arith)) (λ k d within. absurd (omega arith)) belongs.above

-- the items still ascend
with_ascends : {A : Type 0} (key : A → List ℕ) (new : A) (items : List A) → AscendBy key items → AscendBy key (with_item key new items)
with_ascends {A} key new items are =
    let R : A → A → Type 0 = λ a b. is_before (key a) (key b) ≡ true in
    let below : A → Bool = λ item. is_before (key item) (key new) in
    let above : A → Bool = λ item. is_before (key new) (key item) in
    pairs_append R (filter below items) (new ∷ filter above items) (AllPairs-filter R below items are)
    (AllPairs-cons R new (filter above items) (passes above items) (AllPairs-filter R above items are))
    (λ k d within.
    let x = get_or (filter below items) k d in
    All-cons (R x) new (filter above items) (passes below items k d within)
    (λ j e inside. before_trans (key x) (key new) (key (get_or (filter above items) j e)) (passes below items k d within) (passes above items j e inside)))

pub put_ascends : {A : Type 0} (key : A → List ℕ) (new : A) (items more : List A) → more ≡ with_item key new items → AscendBy key items → AscendBy key more
put_ascends key new items more is are = subst (AscendBy key) (sym is) (with_ascends key new items are)
