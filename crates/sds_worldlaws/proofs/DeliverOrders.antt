-- In whatever order a message is delivered, the batches of each channel come in their order.
use Rattle.std.proofs.Common.{◌≡◌, ℕ, zero, suc, ◌+◌, ◌-◌, ◌<◌, ◌≤◌, Bool, true, false, cond, List, [], ◌∷◌, ◌++◌, length, map, Option, None, Some, refl, sym, ap, subst, ◌∙◌, arith, true≢false, filter, filter_map, ◌==◌, All, append-nil, append_assoc, take, drop, take-append-drop, get_or}
use Rattle.std.specs.List.{cons_option, enumerate_from}
use Rattle.std.specs.Prelude.{nat_le, nat_lt, slice_get}
use Rattle.std.proofs.lemmas.Bool.Decides.{nat_tests}
use Rattle.std.proofs.lemmas.List.{length-append}
use Rattle.std.proofs.lemmas.List.Elements.{All-nil, All-cons, All-append, filter-append}
use Rattle.sds_types.specs.declared.batch.OutBatch.{OutBatch}
use Rattle.sds_trade.proofs.Lists.{all_head, all_tail, passes}
use Rattle.sds_history.specs.world.DeliverOrder.{deliver_order, in_channel, is_in_part, is_left, mentioned_batch, mentions}
use Rattle.sds_nodelaws.proofs.Held.{mapped}
use Rattle.sds_nodelaws.proofs.Tests.{same_number}
use Rattle.sds_nodelaws.proofs.Lists.{Ascending, ascending_filter, filter_none, from_le, from_not_le, in_all, is_lt_test, no_some, same_some}

abbrev Placed : Type 0
Placed = ℕ × OutBatch

-- MENTIONS
one_more : (pre : List ℕ) (x : ℕ) (c : ℕ) → (x == c) ≡ true → mentions (pre ++ x ∷ []) c ≡ mentions pre c + 1
one_more pre x c is =
    ap length (filter-append (λ (other : ℕ). other == c) pre (x ∷ [])) ∙ (length-append (filter (λ (other : ℕ). other == c) pre) (filter (λ (other : ℕ). other == c) (x ∷ []))
    ∙ ap (λ b. mentions pre c + length (cond b (x ∷ []) [])) is)

none_more : (pre : List ℕ) (x : ℕ) (c : ℕ) → (x == c) ≡ false → mentions (pre ++ x ∷ []) c ≡ mentions pre c
none_more pre x c is =
    ap length (filter-append (λ (other : ℕ). other == c) pre (x ∷ []))
    ∙ (ap (λ b. length (filter (λ (other : ℕ). other == c) pre ++ cond b (x ∷ []) [])) is ∙ ap length (append-nil (filter (λ (other : ℕ). other == c) pre)))

taken : (pre rest : List ℕ) → take (length pre) (pre ++ rest) ≡ pre
taken [] rest = take-none rest
  where
    take-none : (l : List ℕ) → take 0 l ≡ []
    take-none [] = refl
    take-none (x ∷ xs) = refl
taken (x ∷ pre) rest = ap (λ xs. x ∷ xs) (taken pre rest)

-- what stands at a place, and what comes after it
head_of_rest : (L : List Placed) (k : ℕ) (at : Placed) → slice_get L k ≡ Some at → drop k L ≡ at ∷ drop (k + 1) L
head_of_rest [] k at is = no_some at is
head_of_rest (x ∷ L) zero at is = ap (λ y. y ∷ L) (same_some x at is)
head_of_rest (x ∷ L) (suc k) at is = head_of_rest L k at is ∙ ap (λ n. at ∷ drop n (x ∷ L)) (next k)
  where
    next : (n : ℕ) → suc (n + 1) ≡ suc n + 1
    next n = omega arith

no_rest : (L : List Placed) (k : ℕ) → slice_get L k ≡ None → drop k L ≡ []
no_rest [] zero is = refl
no_rest [] (suc k) is = refl
no_rest (x ∷ L) zero is = no_some x (sym is)
no_rest (x ∷ L) (suc k) is = no_rest L k is

no_rest_after : (L : List Placed) (k : ℕ) → drop k L ≡ [] → drop (k + 1) L ≡ []
no_rest_after [] k is = nothing (k + 1)
  where
    nothing : (n : ℕ) → drop {A = Placed} n [] ≡ []
    nothing zero = refl
    nothing (suc n) = refl
no_rest_after (x ∷ L) zero is = absurd (true≢false (ap (λ l. elim l [ [] ↦ false | y ∷ ys ↦ true ]) is))
no_rest_after (x ∷ L) (suc k) is = ap (λ n. drop n (x ∷ L)) (next k) ∙ no_rest_after L k is
  where
    next : (n : ℕ) → suc n + 1 ≡ suc (n + 1)
    next n = omega arith

take_nothing : (n : ℕ) → take {A = Placed} n [] ≡ []
take_nothing zero = refl
take_nothing (suc n) = refl

all_at : (P : Placed → Type 0) (L : List Placed) (k : ℕ) (at : Placed) → All P L → slice_get L k ≡ Some at → P at
all_at P [] k at are is = no_some at is
all_at P (x ∷ L) zero at are is = subst P (same_some x at is) (all_head P x L are)
all_at P (x ∷ L) (suc k) at are is = all_at P L k at (all_tail P x L are) is

passes_all : (c : ℕ) (batches : List Placed) → All (λ (at : Placed). is_in_part c at ≡ true) (in_channel batches c)
passes_all c batches = passes (is_in_part c) batches

-- a mention of the channel gives its next batch
here_on : (c k : ℕ) (L : List Placed) (later : List Placed) (m : ℕ) (found : Option Placed) → slice_get L k ≡ found → All (λ (at : Placed). is_in_part c at ≡ true) L
    → filter (is_in_part c) later ≡ take m (drop (k + 1) L)
    → filter (is_in_part c) (cons_option found later) ≡ take (suc m) (drop k L)
here_on c k L later m None is are rest =
    rest ∙ (ap (take m) (no_rest_after L k (no_rest L k is)) ∙ (take_nothing m ∙ sym (ap (take (suc m)) (no_rest L k is) ∙ take_nothing (suc m))))
here_on c k L later m (Some at) is are rest =
    ap (λ b. cond b (at ∷ filter (is_in_part c) later) (filter (is_in_part c) later)) (all_at (λ (a : Placed). is_in_part c a ≡ true) L k at are is)
    ∙ (ap (λ l. at ∷ l) rest ∙ sym (ap (take (suc m)) (head_of_rest L k at is)))

-- a mention of another gives none of the channel
apart_on : (c x : ℕ) (later : List Placed) (L : List Placed) (k : ℕ) (found : Option Placed) → slice_get L k ≡ found → (x == c) ≡ false
    → All (λ (at : Placed). is_in_part x at ≡ true) L → filter (is_in_part c) (cons_option found later) ≡ filter (is_in_part c) later
apart_on c x later L k None is isnt are = refl
apart_on c x later L k (Some at) is isnt are =
    ap (λ b. cond b (at ∷ filter (is_in_part c) later) (filter (is_in_part c) later))
    (ap (λ n. n == c) (same_number at.1.channel x (all_at (λ (a : Placed). is_in_part x a ≡ true) L k at are is)) ∙ isnt)

mention_on : (c : ℕ) (batches : List Placed) (pre : List ℕ) (x : ℕ) (xs : List ℕ) (b : Bool) → (x == c) ≡ b
    → filter (is_in_part c) (filter_map (mentioned_batch ((pre ++ x ∷ []) ++ xs) batches) (enumerate_from (length pre + 1) xs))
    ≡ take (mentions xs c) (drop (mentions (pre ++ x ∷ []) c) (in_channel batches c))
    → filter (is_in_part c) (cons_option (slice_get (in_channel batches x) (mentions pre x))
    (filter_map (mentioned_batch ((pre ++ x ∷ []) ++ xs) batches) (enumerate_from (length pre + 1) xs)))
    ≡ take (length (cond b (x ∷ filter (λ (other : ℕ). other == c) xs) (filter (λ (other : ℕ). other == c) xs))) (drop (mentions pre c) (in_channel batches c))
mention_on c batches pre x xs true is rest =
    let same : x ≡ c = same_number x c is in
    here_on c (mentions pre c) (in_channel batches c) (filter_map (mentioned_batch ((pre ++ x ∷ []) ++ xs) batches) (enumerate_from (length pre + 1) xs)) (mentions xs c)
    (slice_get (in_channel batches x) (mentions pre x)) (ap (λ n. slice_get (in_channel batches n) (mentions pre n)) (sym same)) (passes_all c batches)
    (rest ∙ ap (λ k. take (mentions xs c) (drop k (in_channel batches c))) (one_more pre x c is))
mention_on c batches pre x xs false is rest =
    apart_on c x (filter_map (mentioned_batch ((pre ++ x ∷ []) ++ xs) batches) (enumerate_from (length pre + 1) xs)) (in_channel batches x) (mentions pre x)
    (slice_get (in_channel batches x) (mentions pre x)) refl is (passes_all x batches)
    ∙ (rest ∙ ap (λ k. take (mentions xs c) (drop k (in_channel batches c))) (none_more pre x c is))

snoc_length : (pre : List ℕ) (x : ℕ) → length (pre ++ x ∷ []) ≡ length pre + 1
snoc_length pre x = length-append pre (x ∷ [])

mentioned : (c : ℕ) (batches : List Placed) (pre rest : List ℕ)
    → filter (is_in_part c) (filter_map (mentioned_batch (pre ++ rest) batches) (enumerate_from (length pre) rest))
    ≡ take (mentions rest c) (drop (mentions pre c) (in_channel batches c))
mentioned c batches pre [] = sym (take-none (drop (mentions pre c) (in_channel batches c)))
  where
    take-none : (l : List Placed) → take 0 l ≡ []
    take-none [] = refl
    take-none (x ∷ xs) = refl
mentioned c batches pre (x ∷ xs) =
    ap (λ (cs : List ℕ). filter (is_in_part c) (cons_option (slice_get (in_channel batches x) (mentions cs x))
    (filter_map (mentioned_batch (pre ++ x ∷ xs) batches) (enumerate_from (length pre + 1) xs)))) (taken pre (x ∷ xs))
    ∙ (ap (λ (cs : List ℕ). filter (is_in_part c) (cons_option (slice_get (in_channel batches x) (mentions pre x))
    (filter_map (mentioned_batch cs batches) (enumerate_from (length pre + 1) xs)))) (sym (append_assoc pre (x ∷ []) xs))
    ∙ mention_on c batches pre x xs (x == c) refl
    (ap (λ n. filter (is_in_part c) (filter_map (mentioned_batch ((pre ++ x ∷ []) ++ xs) batches) (enumerate_from n xs))) (sym (snoc_length pre x))
    ∙ mentioned c batches (pre ++ x ∷ []) xs))

-- THE OTHERS. Of a channel's batches those are left that come after the mentioned ones
abbrev place_of : Placed → ℕ
place_of at = at.0

abbrev is_below : Placed → Placed → Bool
is_below at other = nat_lt other.0 at.0

all_below : (at : Placed) (pre : List Placed) → All (λ (o : Placed). o.0 < at.0) pre → filter (is_below at) pre ≡ pre
all_below at [] are = refl
all_below at (o ∷ pre) are =
    ap (λ b. cond b (o ∷ filter (is_below at) pre) (filter (is_below at) pre)) (is_lt_test o.0 at.0 (all_head (λ (p : Placed). p.0 < at.0) o pre are))
    ∙ ap (λ l. o ∷ l) (all_below at pre (all_tail (λ (p : Placed). p.0 < at.0) o pre are))

none_below : (at : Placed) (post : List Placed) → All (λ (o : Placed). at.0 < o.0) post → filter (is_below at) (at ∷ post) ≡ []
none_below at post are =
    filter_none (is_below at) (at ∷ post)
    (All-cons (λ (o : Placed). is_below at o ≡ false) at post (not_itself at.0)
    (mapped (λ (o : Placed). at.0 < o.0) (λ (o : Placed). is_below at o ≡ false) post (λ o less. not_less at.0 o.0 less) are))
  where
    not_itself : (n : ℕ) → nat_lt n n ≡ false
    not_itself n = grind (arith, nat_tests)

    not_less : (a b : ℕ) → a < b → nat_lt b a ≡ false
    not_less a b less = grind (arith, nat_tests, less)

rank_is : (at : Placed) (pre post : List Placed) → All (λ (o : Placed). o.0 < at.0) pre → All (λ (o : Placed). at.0 < o.0) post
    → length (filter (is_below at) (pre ++ at ∷ post)) ≡ length pre
rank_is at pre post before after =
    ap length (filter-append (is_below at) pre (at ∷ post) ∙ (ap (λ l. filter (is_below at) pre ++ l) (none_below at post after)
    ∙ (append-nil (filter (is_below at) pre) ∙ all_below at pre before)))

abbrev is_late : ℕ → List Placed → Placed → Bool
is_late m L at = nat_le m (length (filter (is_below at) L))

all_snoc : (P : Placed → Type 0) (pre : List Placed) (x : Placed) → All P pre → P x → All P (pre ++ x ∷ [])
all_snoc P pre x are is = All-append P pre (x ∷ []) are (All-cons P x [] is (All-nil P))

late_on : (m n : ℕ) (x : Placed) (xs kept : List Placed) (b : Bool) → nat_le m n ≡ b → kept ≡ drop (m - (n + 1)) xs
    → cond b (x ∷ kept) kept ≡ drop (m - n) (x ∷ xs)
late_on m n x xs kept true is rest =
    ap (λ l. x ∷ l) (rest ∙ (ap (λ k. drop k xs) (gone m (n + 1) (more m n (from_le m n is))) ∙ none_dropped xs)) ∙ sym (ap (λ k. drop k (x ∷ xs)) (gone m n (from_le m n is)))
  where
    gone : (a b : ℕ) → a ≤ b → a - b ≡ 0
    gone a b less = omega (arith, less)

    more : (a b : ℕ) → a ≤ b → a ≤ b + 1
    more a b less = omega (arith, less)

    none_dropped : (l : List Placed) → drop 0 l ≡ l
    none_dropped [] = refl
    none_dropped (y ∷ ys) = refl
late_on m n x xs kept false is rest = rest ∙ sym (ap (λ k. drop k (x ∷ xs)) (one m n (from_not_le m n is)))
  where
    one : (a b : ℕ) → b < a → a - b ≡ suc (a - (b + 1))
    one a b less = omega (arith, less)

lates : (m : ℕ) (L pre post : List Placed) → L ≡ pre ++ post → Ascending place_of post → All (λ (x : Placed). All (λ (o : Placed). o.0 < x.0) pre) post
    → filter (is_late m L) post ≡ drop (m - length pre) post
lates m L pre [] same ascend before = sym (nothing (m - length pre))
  where
    nothing : (n : ℕ) → drop {A = Placed} n [] ≡ []
    nothing zero = refl
    nothing (suc n) = refl
lates m L pre (x ∷ post) same ascend before =
    let rank : length (filter (is_below x) L) ≡ length pre =
    ap (λ l. length (filter (is_below x) l)) same ∙ rank_is x pre post (all_head (λ (y : Placed). All (λ (o : Placed). o.0 < y.0) pre) x post before) ascend.0 in
    ap (λ n. cond (nat_le m n) (x ∷ filter (is_late m L) post) (filter (is_late m L) post)) rank
    ∙ late_on m (length pre) x post (filter (is_late m L) post) (nat_le m (length pre)) refl
    (lates m L (pre ++ x ∷ []) post (same ∙ sym (append_assoc pre (x ∷ []) post)) ascend.1
    (each pre x post (all_tail (λ (y : Placed). All (λ (o : Placed). o.0 < y.0) pre) x post before) ascend.0)
    ∙ ap (λ n. drop (m - n) post) (length-append pre (x ∷ [])))
  where
    each : (firsts : List Placed) (y : Placed) (rest : List Placed) → All (λ (z : Placed). All (λ (o : Placed). o.0 < z.0) firsts) rest
        → All (λ (z : Placed). y.0 < z.0) rest → All (λ (z : Placed). All (λ (o : Placed). o.0 < z.0) (firsts ++ y ∷ [])) rest
    each firsts y rest one two k d within = all_snoc (λ (o : Placed). o.0 < (get_or rest k d).0) firsts y (one k d within) (two k d within)

-- a filter of a filter, the other way round
filters_swap : (p q : Placed → Bool) (xs : List Placed) → filter p (filter q xs) ≡ filter q (filter p xs)
filters_swap p q [] = refl
filters_swap p q (x ∷ xs) = swap_on (p x) (q x) refl refl (filters_swap p q xs)
  where
    swap_on : (a b : Bool) → p x ≡ a → q x ≡ b → filter p (filter q xs) ≡ filter q (filter p xs)
        → filter p (cond b (x ∷ filter q xs) (filter q xs)) ≡ filter q (cond a (x ∷ filter p xs) (filter p xs))
    swap_on true true first second rest =
        ap (λ t. cond t (x ∷ filter p (filter q xs)) (filter p (filter q xs))) first
        ∙ (ap (λ l. x ∷ l) rest ∙ sym (ap (λ t. cond t (x ∷ filter q (filter p xs)) (filter q (filter p xs))) second))
    swap_on true false first second rest = rest ∙ sym (ap (λ t. cond t (x ∷ filter q (filter p xs)) (filter q (filter p xs))) second)
    swap_on false true first second rest = ap (λ t. cond t (x ∷ filter p (filter q xs)) (filter p (filter q xs))) first ∙ rest
    swap_on false false first second rest = rest

filter_same : (p q : Placed → Bool) (xs : List Placed) → All (λ (x : Placed). p x ≡ q x) xs → filter p xs ≡ filter q xs
filter_same p q [] same = refl
filter_same p q (x ∷ xs) same =
    ap (λ b. cond b (x ∷ filter p xs) (filter p xs)) (all_head (λ (y : Placed). p y ≡ q y) x xs same)
    ∙ ap (λ l. cond (q x) (x ∷ l) l) (filter_same p q xs (all_tail (λ (y : Placed). p y ≡ q y) x xs same))

left_over : (c : ℕ) (channels : List ℕ) (batches : List Placed) → Ascending place_of batches
    → filter (is_in_part c) (filter (is_left channels batches) batches) ≡ drop (mentions channels c) (in_channel batches c)
left_over c channels batches ascend =
    let L : List Placed = in_channel batches c in
    filters_swap (is_in_part c) (is_left channels batches) batches
    ∙ (filter_same (is_left channels batches) (is_late (mentions channels c) L) L
    (mapped (λ (at : Placed). is_in_part c at ≡ true) (λ (at : Placed). is_left channels batches at ≡ is_late (mentions channels c) L at) L
    (λ at is. ap (λ n. nat_le (mentions channels n) (length (filter (is_below at) (in_channel batches n)))) (same_number at.1.channel c is)) (passes_all c batches))
    ∙ (lates (mentions channels c) L [] L refl (ascending_filter place_of (is_in_part c) batches ascend) (in_all (λ (x : Placed). All (λ (o : Placed). o.0 < x.0) []) L
    (λ x is. All-nil (λ (o : Placed). o.0 < x.0)))
    ∙ ap (λ n. drop n L) (all_of_it (mentions channels c))))
  where
    all_of_it : (n : ℕ) → n - 0 ≡ n
    all_of_it n = omega arith

pub order_keeps_channels : (c : ℕ) (channels : List ℕ) (batches : List Placed) → Ascending place_of batches
    → filter (is_in_part c) (deliver_order channels batches) ≡ filter (is_in_part c) batches
order_keeps_channels c channels batches ascend =
    filter-append (is_in_part c) (filter_map (mentioned_batch channels batches) (enumerate_from 0 channels)) (filter (is_left channels batches) batches)
    ∙ (ap (λ l. l ++ filter (is_in_part c) (filter (is_left channels batches) batches)) (mentioned c batches [] channels ∙ ap (take (mentions channels c)) (none_dropped (in_channel batches c)))
    ∙ (ap (λ l. take (mentions channels c) (in_channel batches c) ++ l) (left_over c channels batches ascend)
    ∙ take-append-drop (mentions channels c) (in_channel batches c)))
  where
    none_dropped : (l : List Placed) → drop 0 l ≡ l
    none_dropped [] = refl
    none_dropped (y ∷ ys) = refl

above : (first next : ℕ) (batches : List OutBatch) → first < next → All (λ (at : Placed). first < at.0) (enumerate_from next batches)
above first next [] less = All-nil (λ (at : Placed). first < at.0)
above first next (batch ∷ batches) less =
    All-cons (λ (at : Placed). first < at.0) (next, batch) (enumerate_from (next + 1) batches) less (above first (next + 1) batches (more first next less))
  where
    more : (a b : ℕ) → a < b → a < b + 1
    more a b is = omega (arith, is)

-- the places of a message ascend
pub places_ascend : (first : ℕ) (batches : List OutBatch) → Ascending place_of (enumerate_from first batches)
places_ascend first [] = tt
places_ascend first (batch ∷ batches) = (above first (first + 1) batches (next first), places_ascend (first + 1) batches)
  where
    next : (n : ℕ) → n < n + 1
    next n = omega arith

pub channel_batches : (c first : ℕ) (batches : List OutBatch)
    → map (λ (at : Placed). at.1) (filter (is_in_part c) (enumerate_from first batches)) ≡ filter (λ (batch : OutBatch). batch.channel == c) batches
channel_batches c first [] = refl
channel_batches c first (batch ∷ batches) = on (batch.channel == c) (channel_batches c (first + 1) batches)
  where
    on : (b : Bool) → map (λ (at : Placed). at.1) (filter (is_in_part c) (enumerate_from (first + 1) batches)) ≡ filter (λ (o : OutBatch). o.channel == c) batches
        → map (λ (at : Placed). at.1) (cond b ((first, batch) ∷ filter (is_in_part c) (enumerate_from (first + 1) batches)) (filter (is_in_part c) (enumerate_from (first + 1) batches)))
        ≡ cond b (batch ∷ filter (λ (o : OutBatch). o.channel == c) batches) (filter (λ (o : OutBatch). o.channel == c) batches)
    on true rest = ap (λ bs. batch ∷ bs) rest
    on false rest = rest
