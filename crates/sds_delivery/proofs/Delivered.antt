-- The batches that are delivered stand at the places that are worked out from their channels alone.
use Rattle.std.proofs.Common.{◌≡◌, ℕ, zero, suc, ◌+◌, ◌-◌, Bool, true, false, cond, List, [], ◌∷◌, ◌++◌, length, map, Option, None, Some, refl, sym, ap, subst, ◌∙◌, arith, filter, filter_map, ◌==◌, All, append_assoc, take}
use Rattle.std.specs.List.{cons_option, enumerate_from}
use Rattle.std.specs.Prelude.{nat_le, nat_lt, option_map, slice_get}
use Rattle.std.proofs.lemmas.Bool.Decides.{nat_tests}
use Rattle.std.proofs.lemmas.List.{length-append, map-append}
use Rattle.std.proofs.lemmas.List.Elements.{All-nil, All-cons, All-append}
use Rattle.sds_types.specs.declared.batch.OutBatch.{OutBatch}
use Rattle.sds_trade.proofs.Lists.{all_head, all_tail}
use Rattle.sds_history.specs.world.DeliverOrder.{deliver_order, in_channel, is_in_part, is_left, mentioned_batch, mentions}
use Rattle.sds_nodelaws.proofs.Lists.{filter_all, slice_all}
use Rattle.sds_delivery.specs.Placing.{at_places, is_unmentioned, mentioned_place, mentioned_places, places_from, unmentioned_from}

abbrev pub Placed : Type 0
Placed = ℕ × OutBatch

abbrev pub place_of : Placed → ℕ
place_of at = at.0

abbrev pub channel_of : OutBatch → ℕ
channel_of batch = batch.channel

-- OF THE MESSAGE. What is delivered stands in the message at its place
abbrev pub IsOf : List OutBatch → Placed → Type 0
IsOf batches at = slice_get batches at.0 ≡ Some at.1

mentioned_all : (P : Placed → Type 0) (mentioned : List ℕ) (batches : List Placed) (ats : List (ℕ × ℕ)) → All P batches
    → All P (filter_map (mentioned_batch mentioned batches) ats)
mentioned_all P mentioned batches [] are = All-nil P
mentioned_all P mentioned batches (at ∷ ats) are =
    on (slice_get (in_channel batches at.1) (mentions (take at.0 mentioned) at.1)) refl (mentioned_all P mentioned batches ats are)
  where
    on : (found : Option Placed) → slice_get (in_channel batches at.1) (mentions (take at.0 mentioned) at.1) ≡ found
        → All P (filter_map (mentioned_batch mentioned batches) ats) → All P (cons_option found (filter_map (mentioned_batch mentioned batches) ats))
    on None is rest = rest
    on (Some x) is rest = All-cons P x (filter_map (mentioned_batch mentioned batches) ats)
        (slice_all P (in_channel batches at.1) (mentions (take at.0 mentioned) at.1) x (filter_all P (is_in_part at.1) batches are) is) rest

order_all : (P : Placed → Type 0) (mentioned : List ℕ) (batches : List Placed) → All P batches → All P (deliver_order mentioned batches)
order_all P mentioned batches are =
    All-append P (filter_map (mentioned_batch mentioned batches) (enumerate_from 0 mentioned)) (filter (is_left mentioned batches) batches)
    (mentioned_all P mentioned batches (enumerate_from 0 mentioned) are) (filter_all P (is_left mentioned batches) batches are)

stands_after : (before : List OutBatch) (batch : OutBatch) (batches : List OutBatch) → slice_get (before ++ batch ∷ batches) (length before) ≡ Some batch
stands_after [] batch batches = refl
stands_after (b ∷ before) batch batches = stands_after before batch batches

placed_from : (before batches all : List OutBatch) → all ≡ before ++ batches → All (IsOf all) (enumerate_from (length before) batches)
placed_from before [] all same = All-nil (IsOf all)
placed_from before (batch ∷ batches) all same =
    All-cons (IsOf all) (length before, batch) (enumerate_from (length before + 1) batches)
    (ap (λ bs. slice_get bs (length before)) same ∙ stands_after before batch batches)
    (subst (λ n. All (IsOf all) (enumerate_from n batches)) (length-append before (batch ∷ []))
    (placed_from (before ++ batch ∷ []) batches all (same ∙ sym (append_assoc before (batch ∷ []) batches))))

pub of_the_message : (mentioned : List ℕ) (batches : List OutBatch) → All (IsOf batches) (deliver_order mentioned (enumerate_from 0 batches))
of_the_message mentioned batches = order_all (IsOf batches) mentioned (enumerate_from 0 batches) (placed_from [] batches batches refl)

-- so it is found again by its place
found_again : (batches : List OutBatch) (ats : List Placed) → All (IsOf batches) ats → at_places batches (map place_of ats) ≡ ats
found_again batches [] are = refl
found_again batches (at ∷ ats) are =
    ap (λ o. cons_option (option_map (λ (batch : OutBatch). (at.0, batch)) o) (at_places batches (map place_of ats))) (all_head (IsOf batches) at ats are)
    ∙ ap (λ rest. at ∷ rest) (found_again batches ats (all_tail (IsOf batches) at ats are))

-- MENTIONED. The places of a channel's batches are told by the channels
in_part : (c first : ℕ) (batches : List OutBatch) → map place_of (in_channel (enumerate_from first batches) c) ≡ places_from c first (map channel_of batches)
in_part c first [] = refl
in_part c first (batch ∷ batches) = on (batch.channel == c) (in_part c (first + 1) batches)
  where
    on : (b : Bool) → map place_of (in_channel (enumerate_from (first + 1) batches) c) ≡ places_from c (first + 1) (map channel_of batches)
        → map place_of (cond b ((first, batch) ∷ in_channel (enumerate_from (first + 1) batches) c) (in_channel (enumerate_from (first + 1) batches) c))
        ≡ cond b (first ∷ places_from c (first + 1) (map channel_of batches)) (places_from c (first + 1) (map channel_of batches))
    on true rest = ap (λ places. first ∷ places) rest
    on false rest = rest

get_map : {X Y : Type 0} (f : X → Y) (xs : List X) (k : ℕ) → option_map f (slice_get xs k) ≡ slice_get (map f xs) k
get_map f [] k = refl
get_map f (x ∷ xs) zero = refl
get_map f (x ∷ xs) (suc k) = get_map f xs k

map_found : {X Y Z : Type 0} (f : Y → Z) (g : X → Option Y) (h : X → Option Z) (xs : List X) → ((x : X) → option_map f (g x) ≡ h x)
    → map f (filter_map g xs) ≡ filter_map h xs
map_found f g h [] same = refl
map_found {X} {Y} {Z} f g h (x ∷ xs) same = on (g x) (map_found f g h xs same) ∙ ap (λ o. cons_option o (filter_map h xs)) (same x)
  where
    on : (o : Option Y) → map f (filter_map g xs) ≡ filter_map h xs → map f (cons_option o (filter_map g xs)) ≡ cons_option (option_map f o) (filter_map h xs)
    on None rest = rest
    on (Some y) rest = ap (λ zs. f y ∷ zs) rest

mentioned_are : (mentioned : List ℕ) (batches : List OutBatch)
    → map place_of (filter_map (mentioned_batch mentioned (enumerate_from 0 batches)) (enumerate_from 0 mentioned)) ≡ mentioned_places mentioned (map channel_of batches)
mentioned_are mentioned batches =
    map_found place_of (mentioned_batch mentioned (enumerate_from 0 batches)) (mentioned_place mentioned (map channel_of batches)) (enumerate_from 0 mentioned)
    (λ at. get_map place_of (in_channel (enumerate_from 0 batches) at.1) (mentions (take at.0 mentioned) at.1)
    ∙ ap (λ places. slice_get places (mentions (take at.0 mentioned) at.1)) (in_part at.1 0 batches))

-- UNMENTIONED. How many of its channel come before a batch is told by the channels
abbrev is_before : ℕ → Placed → Bool
is_before n other = nat_lt other.0 n

none_taken : (n c : ℕ) → mentions (take n []) c ≡ 0
none_taken zero c = refl
none_taken (suc n) c = refl

nothing_taken : (channels : List ℕ) (c : ℕ) → mentions (take 0 channels) c ≡ 0
nothing_taken [] c = refl
nothing_taken (x ∷ channels) c = refl

before_on : (n first : ℕ) (batch : OutBatch) (x : ℕ) (later : List Placed) (taken : List ℕ) (b : Bool) → nat_lt first n ≡ true
    → length (filter (is_before n) later) ≡ length taken
    → length (filter (is_before n) (cond b ((first, batch) ∷ later) later)) ≡ length (cond b (x ∷ taken) taken)
before_on n first batch x later taken true is rest =
    ap (λ t. length (cond t ((first, batch) ∷ filter (is_before n) later) (filter (is_before n) later))) is ∙ ap suc rest
before_on n first batch x later taken false is rest = rest

after_on : (n first : ℕ) (batch : OutBatch) (later : List Placed) (b : Bool) → nat_lt first n ≡ false
    → length (filter (is_before n) later) ≡ 0 → length (filter (is_before n) (cond b ((first, batch) ∷ later) later)) ≡ 0
after_on n first batch later true is rest =
    ap (λ t. length (cond t ((first, batch) ∷ filter (is_before n) later) (filter (is_before n) later))) is ∙ rest
after_on n first batch later false is rest = rest

rank_is : (n c first : ℕ) (batches : List OutBatch)
    → length (filter (is_before n) (in_channel (enumerate_from first batches) c)) ≡ mentions (take (n - first) (map channel_of batches)) c
rank_is n c first [] = sym (none_taken (n - first) c)
rank_is n c first (batch ∷ batches) = on (nat_lt first n) refl (rank_is n c (first + 1) batches)
  where
    one_more : (a b : ℕ) → nat_lt a b ≡ true → b - a ≡ suc (b - (a + 1))
    one_more a b is = grind (arith, nat_tests, is)

    no_more : (a b : ℕ) → nat_lt a b ≡ false → b - a ≡ 0
    no_more a b is = grind (arith, nat_tests, is)

    none_after : (a b : ℕ) → nat_lt a b ≡ false → b - (a + 1) ≡ 0
    none_after a b is = grind (arith, nat_tests, is)

    on : (b : Bool) → nat_lt first n ≡ b
        → length (filter (is_before n) (in_channel (enumerate_from (first + 1) batches) c)) ≡ mentions (take (n - (first + 1)) (map channel_of batches)) c
        → length (filter (is_before n) (in_channel ((first, batch) ∷ enumerate_from (first + 1) batches) c)) ≡ mentions (take (n - first) (batch.channel ∷ map channel_of batches)) c
    on true is rest =
        before_on n first batch batch.channel (in_channel (enumerate_from (first + 1) batches) c)
        (filter (λ (other : ℕ). other == c) (take (n - (first + 1)) (map channel_of batches))) (batch.channel == c) is rest
        ∙ sym (ap (λ k. mentions (take k (batch.channel ∷ map channel_of batches)) c) (one_more first n is))
    on false is rest =
        after_on n first batch (in_channel (enumerate_from (first + 1) batches) c) (batch.channel == c) is
        (rest ∙ (ap (λ k. mentions (take k (map channel_of batches)) c) (none_after first n is) ∙ nothing_taken (map channel_of batches) c))
        ∙ sym (ap (λ k. mentions (take k (batch.channel ∷ map channel_of batches)) c) (no_more first n is))

left_is : (mentioned : List ℕ) (batches : List OutBatch) (at : Placed)
    → is_left mentioned (enumerate_from 0 batches) at ≡ is_unmentioned mentioned (map channel_of batches) (at.0, at.1.channel)
left_is mentioned batches at =
    ap (nat_le (mentions mentioned at.1.channel)) (rank_is at.0 at.1.channel 0 batches
    ∙ ap (λ n. mentions (take n (map channel_of batches)) at.1.channel) (all_of_it at.0))
  where
    all_of_it : (n : ℕ) → n - 0 ≡ n
    all_of_it n = omega arith

left_are : (mentioned : List ℕ) (batches : List OutBatch) (first : ℕ) (later : List OutBatch)
    → map place_of (filter (is_left mentioned (enumerate_from 0 batches)) (enumerate_from first later))
    ≡ unmentioned_from first mentioned (map channel_of batches) (map channel_of later)
left_are mentioned batches first [] = refl
left_are mentioned batches first (batch ∷ later) =
    ap (λ t. map place_of (cond t ((first, batch) ∷ filter (is_left mentioned (enumerate_from 0 batches)) (enumerate_from (first + 1) later))
    (filter (is_left mentioned (enumerate_from 0 batches)) (enumerate_from (first + 1) later)))) (left_is mentioned batches (first, batch))
    ∙ on (is_unmentioned mentioned (map channel_of batches) (first, batch.channel)) (left_are mentioned batches (first + 1) later)
  where
    on : (b : Bool) → map place_of (filter (is_left mentioned (enumerate_from 0 batches)) (enumerate_from (first + 1) later))
        ≡ unmentioned_from (first + 1) mentioned (map channel_of batches) (map channel_of later)
        → map place_of (cond b ((first, batch) ∷ filter (is_left mentioned (enumerate_from 0 batches)) (enumerate_from (first + 1) later))
        (filter (is_left mentioned (enumerate_from 0 batches)) (enumerate_from (first + 1) later)))
        ≡ map (λ (at : ℕ × ℕ). at.0) (cond b ((first, batch.channel) ∷ filter (is_unmentioned mentioned (map channel_of batches)) (enumerate_from (first + 1) (map channel_of later)))
        (filter (is_unmentioned mentioned (map channel_of batches)) (enumerate_from (first + 1) (map channel_of later))))
    on true rest = ap (λ places. first ∷ places) rest
    on false rest = rest

-- THE ORDER
places_are : (mentioned : List ℕ) (batches : List OutBatch) → map place_of (deliver_order mentioned (enumerate_from 0 batches))
    ≡ mentioned_places mentioned (map channel_of batches) ++ unmentioned_from 0 mentioned (map channel_of batches) (map channel_of batches)
places_are mentioned batches =
    map-append place_of (filter_map (mentioned_batch mentioned (enumerate_from 0 batches)) (enumerate_from 0 mentioned))
    (filter (is_left mentioned (enumerate_from 0 batches)) (enumerate_from 0 batches))
    ∙ (ap (λ places. places ++ map place_of (filter (is_left mentioned (enumerate_from 0 batches)) (enumerate_from 0 batches))) (mentioned_are mentioned batches)
    ∙ ap (λ places. mentioned_places mentioned (map channel_of batches) ++ places) (left_are mentioned batches 0 batches))

pub delivered_at : (mentioned channels places : List ℕ) (batches : List OutBatch) → map channel_of batches ≡ channels
    → places ≡ mentioned_places mentioned channels ++ unmentioned_from 0 mentioned channels channels
    → deliver_order mentioned (enumerate_from 0 batches) ≡ at_places batches places
delivered_at mentioned channels places batches same are =
    sym (found_again batches (deliver_order mentioned (enumerate_from 0 batches)) (of_the_message mentioned batches))
    ∙ ap (at_places batches) (places_are mentioned batches
    ∙ (ap (λ (cs : List ℕ). mentioned_places mentioned cs ++ unmentioned_from 0 mentioned cs cs) same ∙ sym are))
