-- Of the channels in order each of the configuration's stands once.
use Rattle.std.proofs.Common.{◌≡◌, ◌≢◌, ℕ, zero, suc, ◌+◌, ◌<◌, Bool, true, false, cond, List, [], ◌∷◌, ◌++◌, length, Ordering, Less, Equal, Greater, refl, sym, ap, ◌∙◌, arith, true≢false, filter, ◌==◌, All, AllPairs, nat_cmp, append-nil, inl, inr, ◌⊎◌}
use Rattle.std.specs.Cmp.{then_flip}
use Rattle.std.specs.Cmp.Lexicographic.{slice_cmp}
use Rattle.std.specs.List.{enumerate_from, flat_map}
use Rattle.std.specs.Ordering.{is_eq, is_lt, ordering_reverse, ordering_then}
use Rattle.std.proofs.lemmas.Bool.Decides.{nat_tests}
use Rattle.std.proofs.lemmas.Cmp.{nat_cmp_total, nat_list_cmp_total}
use Rattle.std.proofs.lemmas.List.Concat.{flat_map-cons}
use Rattle.std.proofs.lemmas.List.Elements.{All-nil, All-cons, All-append, All-filter, filter-append}
use Rattle.std.proofs.lemmas.List.Kept.{AllPairs-cons}
use Rattle.std.proofs.lemmas.Map.Text.{is_eq-slice_cmp}
use Rattle.std.proofs.lemmas.Slice.Eq.{bytes_eq-Decides}
use Rattle.sds_types.specs.declared.channel.ChannelDef.{ChannelDef}
use Rattle.sds_trade.proofs.Lists.{all_head, all_tail, pairs_head, pairs_tail}
use Rattle.sds_trade.specs.rules.Batches.{channel_order, goes_before, sorted_channels}

abbrev pub At : Type 0
At = ℕ × ChannelDef

abbrev pub IdsApart : At → At → Type 0
IdsApart a b = a.1.id ≢ b.1.id

abbrev pub PlacesApart : At → At → Type 0
PlacesApart a b = a.0 ≢ b.0

-- ORDER. One of two channels of other ids goes before, and the other doesn't
then_equal : (a b : Ordering) → ordering_then a b ≡ Equal → b ≡ Equal
then_equal Less b is = absurd (true≢false (ap (λ o. elim o [ Less ↦ true | Equal ↦ false | Greater ↦ false ]) is))
then_equal Equal b is = is
then_equal Greater b is = absurd (true≢false (ap (λ o. elim o [ Less ↦ false | Equal ↦ false | Greater ↦ true ]) is))

back : (a b : ChannelDef) → channel_order b a ≡ ordering_reverse (channel_order a b)
back a b =
    ap (λ o. ordering_then o (slice_cmp nat_cmp b.id a.id)) (nat_cmp_total.antisymm b.processing_order a.processing_order)
    ∙ (ap (λ o. ordering_then (ordering_reverse (nat_cmp a.processing_order b.processing_order)) o) (nat_list_cmp_total.antisymm b.id a.id)
    ∙ then_flip (nat_cmp a.processing_order b.processing_order) (slice_cmp nat_cmp a.id b.id))

not_equal : (a b : ChannelDef) → a.id ≢ b.id → channel_order a b ≡ Equal → ⊥
not_equal a b apart is =
    apart ((bytes_eq-Decides a.id b.id).0 (sym (is_eq-slice_cmp a.id b.id)
    ∙ ap is_eq (then_equal (nat_cmp a.processing_order b.processing_order) (slice_cmp nat_cmp a.id b.id) is)))

data Side (a b : At) : Type 0 where
  before : goes_before a b ≡ true → goes_before b a ≡ false → Side a b
  after : goes_before a b ≡ false → goes_before b a ≡ true → Side a b

side_on : (a b : At) (o : Ordering) → IdsApart a b → channel_order a.1 b.1 ≡ o → Side a b
side_on a b Less apart is = before (ap is_lt is) (ap is_lt (back a.1 b.1 ∙ ap ordering_reverse is))
side_on a b Equal apart is = absurd (not_equal a.1 b.1 apart is)
side_on a b Greater apart is = after (ap is_lt is) (ap is_lt (back a.1 b.1 ∙ ap ordering_reverse is))

side : (a b : At) → IdsApart a b → Side a b
side a b apart = side_on a b (channel_order a.1 b.1) apart refl

-- SORTED. What holds of each channel holds of each in order
pub sorted_all : (P : At → Type 0) (ats : List At) → All P ats → All P (sorted_channels ats)
sorted_all P [] are = All-nil P
sorted_all P (at ∷ ats) are =
    let rest : All P (sorted_channels ats) = sorted_all P ats (all_tail P at ats are) in
    All-append P (filter (λ (other : At). goes_before other at) (sorted_channels ats)) (at ∷ filter (λ (other : At). goes_before at other) (sorted_channels ats))
    (All-filter (λ (other : At). goes_before other at) P (sorted_channels ats) rest)
    (All-cons P at (filter (λ (other : At). goes_before at other) (sorted_channels ats)) (all_head P at ats are)
    (All-filter (λ (other : At). goes_before at other) P (sorted_channels ats) rest))

-- ONE. At most one channel has a place
abbrev pub is_at : ℕ → At → Bool
is_at place at = place == at.0

other_place : (place a b : ℕ) → (place == a) ≡ true → a ≢ b → (place == b) ≡ false
other_place place a b is apart = grind (arith, nat_tests)

none_at : (place : ℕ) (at : At) (ats : List At) → is_at place at ≡ true → All (PlacesApart at) ats → filter (is_at place) ats ≡ []
none_at place at [] is apart = refl
none_at place at (other ∷ ats) is apart =
    ap (λ b. cond b (other ∷ filter (is_at place) ats) (filter (is_at place) ats)) (other_place place at.0 other.0 is (all_head (PlacesApart at) other ats apart))
    ∙ none_at place at ats is (all_tail (PlacesApart at) other ats apart)

-- what a filter leaves nothing of
none_kept : {X : Type 0} (p q : X → Bool) (xs : List X) → filter p xs ≡ [] → filter p (filter q xs) ≡ []
none_kept p q [] none = refl
none_kept {X} p q (x ∷ xs) none = kept_on (p x) (q x) refl none (λ rest. none_kept p q xs rest)
  where
    kept_on : (a b : Bool) → p x ≡ a → cond a (x ∷ filter p xs) (filter p xs) ≡ [] → (filter p xs ≡ [] → filter p (filter q xs) ≡ [])
        → filter p (cond b (x ∷ filter q xs) (filter q xs)) ≡ []
    kept_on true b is none rest = absurd (true≢false (ap (λ l. elim l [ [] ↦ false | y ∷ ys ↦ true ]) none))
    kept_on false true is none rest = ap (λ a. cond a (x ∷ filter p (filter q xs)) (filter p (filter q xs))) is ∙ rest none
    kept_on false false is none rest = rest none

-- either side of a channel
abbrev Split : ℕ → At → List At → List At
Split place at ats = filter (is_at place) (filter (λ (other : At). goes_before other at) ats)
    ++ filter (is_at place) (filter (λ (other : At). goes_before at other) ats)

side_both : (place : ℕ) (at x : At) (ats : List At) (a b p : Bool) → goes_before x at ≡ a → goes_before at x ≡ b → is_at place x ≡ p → Side x at
    → (p ≡ true → filter (is_at place) ats ≡ []) → Split place at ats ≡ filter (is_at place) ats
    → filter (is_at place) (cond a (x ∷ filter (λ (other : At). goes_before other at) ats) (filter (λ (other : At). goes_before other at) ats))
    ++ filter (is_at place) (cond b (x ∷ filter (λ (other : At). goes_before at other) ats) (filter (λ (other : At). goes_before at other) ats))
    ≡ cond p (x ∷ filter (is_at place) ats) (filter (is_at place) ats)
side_both place at x ats true true p first second here (before less more) one rest = absurd (true≢false (sym second ∙ more))
side_both place at x ats true true p first second here (after less more) one rest = absurd (true≢false (sym first ∙ less))
side_both place at x ats false false p first second here (before less more) one rest = absurd (true≢false (sym less ∙ first))
side_both place at x ats false false p first second here (after less more) one rest = absurd (true≢false (sym more ∙ second))
side_both place at x ats true false true first second here s one rest =
    let none : filter (is_at place) ats ≡ [] = one refl in
    ap (λ c. cond c (x ∷ filter (is_at place) (filter (λ (other : At). goes_before other at) ats))
    (filter (is_at place) (filter (λ (other : At). goes_before other at) ats))
    ++ filter (is_at place) (filter (λ (other : At). goes_before at other) ats)) here
    ∙ ap (λ l. x ∷ l) rest
side_both place at x ats true false false first second here s one rest =
    ap (λ c. cond c (x ∷ filter (is_at place) (filter (λ (other : At). goes_before other at) ats))
    (filter (is_at place) (filter (λ (other : At). goes_before other at) ats))
    ++ filter (is_at place) (filter (λ (other : At). goes_before at other) ats)) here ∙ rest
side_both place at x ats false true true first second here s one rest =
    let none : filter (is_at place) ats ≡ [] = one refl in
    ap (λ c. filter (is_at place) (filter (λ (other : At). goes_before other at) ats)
    ++ cond c (x ∷ filter (is_at place) (filter (λ (other : At). goes_before at other) ats))
    (filter (is_at place) (filter (λ (other : At). goes_before at other) ats))) here
    ∙ (ap (λ l. l ++ x ∷ filter (is_at place) (filter (λ (other : At). goes_before at other) ats))
    (none_kept (is_at place) (λ (other : At). goes_before other at) ats none)
    ∙ ap (λ l. x ∷ l) (none_kept (is_at place) (λ (other : At). goes_before at other) ats none ∙ sym none))
side_both place at x ats false true false first second here s one rest =
    ap (λ c. filter (is_at place) (filter (λ (other : At). goes_before other at) ats)
    ++ cond c (x ∷ filter (is_at place) (filter (λ (other : At). goes_before at other) ats))
    (filter (is_at place) (filter (λ (other : At). goes_before at other) ats))) here ∙ rest

-- at most one of a list has the place
abbrev Single : ℕ → List At → Type 0
Single place [] = Unit {0}
Single place (at ∷ ats) = (is_at place at ≡ true → filter (is_at place) ats ≡ []) × Single place ats

split_same : (place : ℕ) (at : At) (ats : List At) → All (λ (other : At). IdsApart other at) ats → Single place ats → Split place at ats ≡ filter (is_at place) ats
split_same place at [] apart single = refl
split_same place at (x ∷ ats) apart single =
    side_both place at x ats (goes_before x at) (goes_before at x) (is_at place x) refl refl refl
    (side x at (all_head (λ (other : At). IdsApart other at) x ats apart)) single.0
    (split_same place at ats (all_tail (λ (other : At). IdsApart other at) x ats apart) single.1)

-- a list of which a filter leaves one or none
single_by : (place : ℕ) (ats : List At) → filter (is_at place) ats ≡ [] → Single place ats
single_by place [] none = tt
single_by place (at ∷ ats) none = by (is_at place at) refl none (single_by place ats)
  where
    by : (b : Bool) → is_at place at ≡ b → cond b (at ∷ filter (is_at place) ats) (filter (is_at place) ats) ≡ []
        → (filter (is_at place) ats ≡ [] → Single place ats)
        → (is_at place at ≡ true → filter (is_at place) ats ≡ []) × Single place ats
    by true is none rest = absurd (true≢false (ap (λ l. elim l [ [] ↦ false | y ∷ ys ↦ true ]) none))
    by false is none rest = (λ here. none, rest none)

single_one : (place : ℕ) (ats : List At) (one : At) → filter (is_at place) ats ≡ one ∷ [] → Single place ats
single_one place [] one is = tt
single_one place (at ∷ ats) one is = by (is_at place at) refl is (single_one place ats one)
  where
    by : (b : Bool) → is_at place at ≡ b → cond b (at ∷ filter (is_at place) ats) (filter (is_at place) ats) ≡ one ∷ []
        → (filter (is_at place) ats ≡ one ∷ [] → Single place ats)
        → (is_at place at ≡ true → filter (is_at place) ats ≡ []) × Single place ats
    by true here is rest = (λ h. rest_none is, single_by place ats (rest_none is))
      where
        rest_none : at ∷ filter (is_at place) ats ≡ one ∷ [] → filter (is_at place) ats ≡ []
        rest_none same = ap (λ l. elim l [ [] ↦ [] | y ∷ ys ↦ ys ]) same
    by false here is rest = (λ h. absurd (true≢false (sym h ∙ here)), rest is)

single_places : (place : ℕ) (ats : List At) → AllPairs PlacesApart ats → Single place ats
single_places place [] apart = tt
single_places place (at ∷ ats) apart =
    (λ is. none_at place at ats is (pairs_head PlacesApart at ats apart), single_places place ats (pairs_tail PlacesApart at ats apart))

-- one or none
few : (place : ℕ) (ats : List At) → Single place ats → (filter (is_at place) ats ≡ []) ⊎ ((one : At) × (filter (is_at place) ats ≡ one ∷ []))
few place [] single = inl refl
few place (at ∷ ats) single = by (is_at place at) refl (few place ats single.1)
  where
    by : (b : Bool) → is_at place at ≡ b → (filter (is_at place) ats ≡ []) ⊎ ((one : At) × (filter (is_at place) ats ≡ one ∷ []))
        → (cond b (at ∷ filter (is_at place) ats) (filter (is_at place) ats) ≡ [])
        ⊎ ((one : At) × (cond b (at ∷ filter (is_at place) ats) (filter (is_at place) ats) ≡ one ∷ []))
    by true is rest = inr (at, ap (λ l. at ∷ l) (single.0 is))
    by false is rest = rest

single_same : (place : ℕ) (xs ys : List At) → filter (is_at place) xs ≡ filter (is_at place) ys → Single place ys → Single place xs
single_same place xs ys same single = by (few place ys single)
  where
    by : (filter (is_at place) ys ≡ []) ⊎ ((one : At) × (filter (is_at place) ys ≡ one ∷ [])) → Single place xs
    by (inl none) = single_by place xs (same ∙ none)
    by (inr (one, is)) = single_one place xs one (same ∙ is)

with_on : (place : ℕ) (at : At) (sorted ats : List At) (b : Bool) → is_at place at ≡ b → filter (is_at place) sorted ≡ filter (is_at place) ats
    → (b ≡ true → filter (is_at place) ats ≡ []) → Split place at sorted ≡ filter (is_at place) sorted
    → filter (is_at place) (filter (λ (other : At). goes_before other at) sorted)
    ++ cond b (at ∷ filter (is_at place) (filter (λ (other : At). goes_before at other) sorted))
    (filter (is_at place) (filter (λ (other : At). goes_before at other) sorted))
    ≡ cond b (at ∷ filter (is_at place) ats) (filter (is_at place) ats)
with_on place at sorted ats true is same one split =
    let none : filter (is_at place) sorted ≡ [] = same ∙ one refl in
    ap (λ l. l ++ at ∷ filter (is_at place) (filter (λ (other : At). goes_before at other) sorted))
    (none_kept (is_at place) (λ (other : At). goes_before other at) sorted none)
    ∙ ap (λ l. at ∷ l) (none_kept (is_at place) (λ (other : At). goes_before at other) sorted none ∙ sym (one refl))
with_on place at sorted ats false is same one split = split ∙ same

turn : (at : At) (ats : List At) → All (IdsApart at) ats → All (λ (other : At). IdsApart other at) ats
turn at ats apart k d within same = apart k d within (sym same)

pub sorted_at : (place : ℕ) (ats : List At) → AllPairs PlacesApart ats → AllPairs IdsApart ats
    → filter (is_at place) (sorted_channels ats) ≡ filter (is_at place) ats
sorted_at place [] places ids = refl
sorted_at place (at ∷ ats) places ids =
    let same : filter (is_at place) (sorted_channels ats) ≡ filter (is_at place) ats =
    sorted_at place ats (pairs_tail PlacesApart at ats places) (pairs_tail IdsApart at ats ids) in
    filter-append (is_at place) (filter (λ (other : At). goes_before other at) (sorted_channels ats))
    (at ∷ filter (λ (other : At). goes_before at other) (sorted_channels ats))
    ∙ with_on place at (sorted_channels ats) ats (is_at place at) refl same (λ is. none_at place at ats is (pairs_head PlacesApart at ats places))
    (split_same place at (sorted_channels ats)
    (sorted_all (λ (other : At). IdsApart other at) ats (turn at ats (pairs_head IdsApart at ats ids)))
    (single_same place (sorted_channels ats) ats same (single_places place ats (pairs_tail PlacesApart at ats places))))

-- NUMBERED. The channels with their places
above_on : (n m : ℕ) → n < m → n ≢ m
above_on n m less same = absurd (omega (arith, less, same))

places_above : (n m : ℕ) (defs : List ChannelDef) → n < m → All (λ (at : At). n < at.0) (enumerate_from m defs)
places_above n m [] less = All-nil (λ (at : At). n < at.0)
places_above n m (def ∷ defs) less =
    All-cons (λ (at : At). n < at.0) (m, def) (enumerate_from (m + 1) defs) less (places_above n (m + 1) defs (more n m less))
  where
    more : (a b : ℕ) → a < b → a < b + 1
    more a b less = omega (arith, less)

next_above : (n : ℕ) → n < n + 1
next_above n = omega arith

pub places_apart : (n : ℕ) (defs : List ChannelDef) → AllPairs PlacesApart (enumerate_from n defs)
places_apart n [] = λ i j d less within. absurd (omega (arith, within))
places_apart n (def ∷ defs) =
    AllPairs-cons PlacesApart (n, def) (enumerate_from (n + 1) defs)
    (λ k d within. above_on n _ (places_above n (n + 1) defs (next_above n) k d within)) (places_apart (n + 1) defs)

pub numbered_all : (P : ChannelDef → Type 0) (n : ℕ) (defs : List ChannelDef) → All P defs → All (λ (at : At). P at.1) (enumerate_from n defs)
numbered_all P n [] are = All-nil (λ (at : At). P at.1)
numbered_all P n (def ∷ defs) are =
    All-cons (λ (at : At). P at.1) (n, def) (enumerate_from (n + 1) defs) (all_head P def defs are) (numbered_all P (n + 1) defs (all_tail P def defs are))

pub ids_apart : (n : ℕ) (defs : List ChannelDef) → AllPairs (λ (a b : ChannelDef). a.id ≢ b.id) defs → AllPairs IdsApart (enumerate_from n defs)
ids_apart n [] are = λ i j d less within. absurd (omega (arith, within))
ids_apart n (def ∷ defs) are =
    AllPairs-cons IdsApart (n, def) (enumerate_from (n + 1) defs)
    (numbered_all (λ (other : ChannelDef). def.id ≢ other.id) (n + 1) defs (pairs_head (λ (a b : ChannelDef). a.id ≢ b.id) def defs are))
    (ids_apart (n + 1) defs (pairs_tail (λ (a b : ChannelDef). a.id ≢ b.id) def defs are))

-- the channel at a place
at_place : (n k : ℕ) (defs : List ChannelDef) → k < length defs → (def : ChannelDef) × (filter (is_at (n + k)) (enumerate_from n defs) ≡ (n + k, def) ∷ [])
at_place n k [] within = absurd (omega (arith, within))
at_place n zero (def ∷ defs) within = (
  def,
  ap (λ b. cond b ((n, def) ∷ filter (is_at (n + zero)) (enumerate_from (n + 1) defs)) (filter (is_at (n + zero)) (enumerate_from (n + 1) defs))) (here n)
      ∙ (ap (λ l. (n, def) ∷ l) (none_at (n + zero) (n, def) (enumerate_from (n + 1) defs) (here n)
      (λ j d inside. above_on n _ (places_above n (n + 1) defs (next_above n) j d inside)))
      ∙ ap (λ m. (m, def) ∷ []) (no_more n)),
)
  where
    here : (a : ℕ) → ((a + zero) == a) ≡ true
    here a = grind (arith, nat_tests)

    no_more : (a : ℕ) → a ≡ a + zero
    no_more a = omega arith
at_place n (suc k) (def ∷ defs) within =
    let (found, is) = at_place (n + 1) k defs (less k (length defs) within) in (
      found,
      ap (λ b. cond b ((n, def) ∷ filter (is_at (n + suc k)) (enumerate_from (n + 1) defs)) (filter (is_at (n + suc k)) (enumerate_from (n + 1) defs))) (past n k)
          ∙ (ap (λ m. filter (is_at m) (enumerate_from (n + 1) defs)) (next n k) ∙ (is ∙ ap (λ m. (m, found) ∷ []) (sym (next n k)))),
    )
  where
    past : (a b : ℕ) → ((a + suc b) == a) ≡ false
    past a b = grind (arith, nat_tests)

    next : (a b : ℕ) → a + suc b ≡ (a + 1) + b
    next a b = omega arith

    less : (a b : ℕ) → suc a < suc b → a < b
    less a b more = omega (arith, more)

-- what is given for the channel at a place alone is given once
flat_on : {Y : Type 0} (place : ℕ) (ys : List Y) (ats : List At) → flat_map (λ (at : At). cond (is_at place at) ys []) ats ≡ flat_map (λ (at : At). ys) (filter (is_at place) ats)
flat_on place ys [] = refl
flat_on {Y} place ys (at ∷ ats) =
    flat_map-cons (λ (other : At). cond (is_at place other) ys []) at ats ∙ by (is_at place at) (flat_on place ys ats)
  where
    by : (b : Bool) → flat_map (λ (other : At). cond (is_at place other) ys []) ats ≡ flat_map (λ (other : At). ys) (filter (is_at place) ats)
        → cond b ys [] ++ flat_map (λ (other : At). cond (is_at place other) ys []) ats
        ≡ flat_map (λ (other : At). ys) (cond b (at ∷ filter (is_at place) ats) (filter (is_at place) ats))
    by true rest = ap (λ l. ys ++ l) rest ∙ sym (flat_map-cons (λ (other : At). ys) at (filter (is_at place) ats))
    by false rest = rest

from_zero : (k : ℕ) → zero + k ≡ k
from_zero k = omega arith

pub given_once : {Y : Type 0} (place : ℕ) (ys : List Y) (defs : List ChannelDef) → AllPairs (λ (a b : ChannelDef). a.id ≢ b.id) defs → place < length defs
    → flat_map (λ (at : At). cond (is_at place at) ys []) (sorted_channels (enumerate_from zero defs)) ≡ ys
given_once place ys defs apart within =
    let (def, is) = at_place zero place defs within in
    flat_on place ys (sorted_channels (enumerate_from zero defs))
    ∙ (ap (flat_map (λ (at : At). ys)) (sorted_at place (enumerate_from zero defs) (places_apart zero defs) (ids_apart zero defs apart)
    ∙ (ap (λ k. filter (is_at k) (enumerate_from zero defs)) (sym (from_zero place)) ∙ is))
    ∙ (flat_map-cons (λ (at : At). ys) (zero + place, def) [] ∙ append-nil ys))
