-- The batches of a message are ready to be loaded one after another in each channel.
use Rattle.std.proofs.Common.{◌≡◌, ℕ, zero, suc, ◌+◌, ◌<◌, ◌≤◌, Bool, true, false, cond, List, [], ◌∷◌, ◌++◌, length, map, Option, None, Some, refl, sym, ap, subst, ◌∙◌, arith, filter, filter_map, ◌==◌, All, append_assoc, take, drop, take-append-drop}
use Rattle.std.specs.List.{cons_option, enumerate_from}
use Rattle.std.specs.Prelude.{nat_le, slice_get}
use Rattle.std.specs.Str.{bytes_eq}
use Rattle.std.proofs.lemmas.List.Concat.{flat_map-cons}
use Rattle.std.proofs.lemmas.List.Elements.{All-nil, All-cons, All-append, filter-append}
use Rattle.sds_types.specs.declared.batch.OutBatch.{OutBatch}
use Rattle.sds_types.specs.declared.config.Config.{Config}
use Rattle.sds_types.specs.declared.message.MessagePart.{MessagePart}
use Rattle.sds_trade.proofs.Lists.{all_head, all_tail, passes}
use Rattle.sds_history.specs.history.Acts.{State}
use Rattle.sds_history.specs.history.Messages.{batches_in_part, batches_in_parts, is_in_lane, lane_made}
use Rattle.sds_history.specs.world.DeliverOrder.{deliver_order, in_channel, is_in_part, is_left, mentioned_batch, mentions}
use Rattle.sds_nodelaws.proofs.Held.{equal_itself, first_all, last_all, mapped}
use Rattle.sds_nodelaws.proofs.Tests.{at_most, same_number}
use Rattle.sds_worldlaws.proofs.DeliverOrders.{channel_batches, order_keeps_channels, places_ascend}
use Rattle.sds_worldlaws.proofs.LaneFacts.{IsNext, kept_of, made, upto}
use Rattle.sds_nodelaws.proofs.Lists.{Ascending, Either, In, all_flat, and_left, any_true, ascending_filter, filter_all, filter_none, from_le, from_not_le, in_last, not_le, slice_all}
use Rattle.sds_nodelaws.proofs.Lists.Either.{left, right}
use Rattle.sds_worldlaws.proofs.WorldFacts.{PartOk}

-- each batch is one of the lane's, and from a highest on it is loaded or the next when its turn comes
abbrev pub Ready : ℕ → List OutBatch → List OutBatch → Type 0
Ready highest lane [] = Unit {0}
Ready highest lane (batch ∷ batches) = In batch lane
    × ((h : ℕ) → highest ≤ h → Either (batch.id ≤ h) (IsNext h lane batch.id))
    × ((h : ℕ) → highest ≤ h → batch.id ≤ h → Ready h lane batches)

pub ready_on : (highest higher : ℕ) (lane batches : List OutBatch) → highest ≤ higher → Ready highest lane batches → Ready higher lane batches
ready_on highest higher lane [] less ready = tt
ready_on highest higher lane (batch ∷ batches) less ready =
    (ready.0, λ h more. ready.1 h (at_most highest higher h less more), λ h more loaded. ready.2 h (at_most highest higher h less more) loaded)

pub ready_append : (highest : ℕ) (lane xs ys : List OutBatch) → Ready highest lane xs → Ready highest lane ys → Ready highest lane (xs ++ ys)
ready_append highest lane [] ys first second = second
ready_append highest lane (x ∷ xs) ys first second =
    (first.0, first.1, λ h more loaded. ready_append h lane xs ys (first.2 h more loaded) (ready_on highest h lane ys more second))

-- PARTS. What comes after loaded batches is ready
abbrev Number : OutBatch → ℕ
Number batch = batch.id

same_most : (n : ℕ) → n ≤ n
same_most n = omega arith

ascending_last : (xs ys : List OutBatch) → Ascending Number (xs ++ ys) → Ascending Number ys
ascending_last [] ys are = are
ascending_last (x ∷ xs) ys are = ascending_last xs ys are.1

pub ready_part : (count highest : ℕ) (lane before rest : List OutBatch) → lane ≡ before ++ rest → Ascending Number lane
    → All (λ (b : OutBatch). b.id ≤ highest) before → Ready highest lane (take count rest)
ready_part zero highest lane before [] same ascend are = tt
ready_part zero highest lane before (batch ∷ rest) same ascend are = tt
ready_part (suc count) highest lane before [] same ascend are = tt
ready_part (suc count) highest lane before (batch ∷ rest) same ascend are = (
  subst (In batch) (sym same) (in_last batch before (batch ∷ rest) (left refl)),
  (λ h more. next h more),
  (λ h more loaded. ready_part count h lane (before ++ batch ∷ []) rest (same ∙ sym (append_assoc before (batch ∷ []) rest)) ascend
      (All-append (λ (b : OutBatch). b.id ≤ h) before (batch ∷ []) (mapped (λ (b : OutBatch). b.id ≤ highest) (λ (b : OutBatch). b.id ≤ h) before
      (λ b less. at_most b.id highest h less more) are) (All-cons (λ (b : OutBatch). b.id ≤ h) batch [] loaded (All-nil (λ (b : OutBatch). b.id ≤ h))))),
)
  where
    later : All (λ (b : OutBatch). batch.id < b.id) rest
    later = (ascending_last before (batch ∷ rest) (subst (Ascending Number) same ascend)).0

    below : {a b : ℕ} → a < b → a ≤ b
    below {a} less = omega (arith, less)

    is_next : (h : ℕ) → highest ≤ h → h < batch.id → IsNext h lane batch.id
    is_next h more over = record {
      more = over;
      has = any_true (λ (b : OutBatch). b.id == batch.id) batch lane (subst (In batch) (sym same) (in_last batch before (batch ∷ rest) (left refl))) (equal_itself batch.id);
      next = subst (All (λ (b : OutBatch). Either (b.id ≤ h) (batch.id ≤ b.id))) (sym same)
          (All-append (λ (b : OutBatch). Either (b.id ≤ h) (batch.id ≤ b.id)) before (batch ∷ rest)
          (mapped (λ (b : OutBatch). b.id ≤ highest) (λ (b : OutBatch). Either (b.id ≤ h) (batch.id ≤ b.id)) before (λ b less. left (at_most b.id highest h less more)) are)
          (All-cons (λ (b : OutBatch). Either (b.id ≤ h) (batch.id ≤ b.id)) batch rest (right (same_most batch.id))
          (mapped (λ (b : OutBatch). batch.id < b.id) (λ (b : OutBatch). Either (b.id ≤ h) (batch.id ≤ b.id)) rest (λ b less. right (below less)) later)));
    }

    next : (h : ℕ) → highest ≤ h → Either (batch.id ≤ h) (IsNext h lane batch.id)
    next h more = on (nat_le batch.id h) refl
      where
        on : (t : Bool) → nat_le batch.id h ≡ t → Either (batch.id ≤ h) (IsNext h lane batch.id)
        on true is = left (from_le batch.id h is)
        on false is = right (is_next h more (from_not_le batch.id h is))

-- where so many are loaded, the first so many are
none_after : (highest : ℕ) (batch : OutBatch) (rest : List OutBatch) → highest < batch.id → All (λ (b : OutBatch). batch.id < b.id) rest → filter (upto highest) rest ≡ []
none_after highest batch rest over are =
    filter_none (upto highest) rest (mapped (λ (b : OutBatch). batch.id < b.id) (λ (b : OutBatch). upto highest b ≡ false) rest
    (λ b less. not_le b.id highest (more highest batch.id b.id over less)) are)
  where
    more : (a b c : ℕ) → a < b → b < c → a < c
    more a b c first second = omega (arith, first, second)

firsts_loaded : (highest : ℕ) (before rest : List OutBatch) → Ascending Number (before ++ rest) → length before ≤ length (filter (upto highest) (before ++ rest))
    → All (λ (b : OutBatch). b.id ≤ highest) before
firsts_loaded highest [] rest ascend few = All-nil (λ (b : OutBatch). b.id ≤ highest)
firsts_loaded highest (batch ∷ before) rest ascend few = on (nat_le batch.id highest) refl few (λ less. firsts_loaded highest before rest ascend.1 less)
  where
    on : (t : Bool) → nat_le batch.id highest ≡ t
        → suc (length before) ≤ length (cond t (batch ∷ filter (upto highest) (before ++ rest)) (filter (upto highest) (before ++ rest)))
        → (length before ≤ length (filter (upto highest) (before ++ rest)) → All (λ (b : OutBatch). b.id ≤ highest) before)
        → All (λ (b : OutBatch). b.id ≤ highest) (batch ∷ before)
    on true is few later =
        All-cons (λ (b : OutBatch). b.id ≤ highest) batch before (from_le batch.id highest is) (later (omega (arith, few)))
    on false is few later = absurd (none_few (subst (λ (bs : List OutBatch). suc (length before) ≤ length bs)
        (none_after highest batch (before ++ rest) (from_not_le batch.id highest is) ascend.0) few))
      where
        none_few : suc (length before) ≤ 0 → ⊥
        none_few less = omega (arith, less)

take_most : (n : ℕ) (batches : List OutBatch) → length (take n batches) ≤ n
take_most zero [] = omega arith
take_most zero (b ∷ batches) = omega arith
take_most (suc n) [] = omega arith
take_most (suc n) (b ∷ batches) = let rest : length (take n batches) ≤ n = take_most n batches in omega (arith, rest)

lane_part : (config : Config) (from to : State) (part : MessagePart) → Ascending Number from.batches → PartOk config from to part
    → Ready (kept_of from to part.channel).highest (made from to part.channel) (batches_in_part from to.me.id part)
lane_part config from to part ascend ok =
    let lane : List OutBatch = made from to part.channel in
    let highest : ℕ = (kept_of from to part.channel).highest in
    let ascends : Ascending Number lane = ascending_filter Number (is_in_lane to.me.id part.channel) from.batches ascend in
    let same : lane ≡ take part.start lane ++ drop part.start lane = sym (take-append-drop part.start lane) in
    ready_part part.count highest lane (take part.start lane) (drop part.start lane) same ascends
    (firsts_loaded highest (take part.start lane) (drop part.start lane) (subst (Ascending Number) same ascends)
    (subst (λ (bs : List OutBatch). length (take part.start lane) ≤ length (filter (upto highest) bs)) same
    (at_most (length (take part.start lane)) part.start (length (filter (upto highest) lane)) (take_most part.start lane) ok.start)))

-- CHANNELS. A channel's batches of a message
of_channel : (c : ℕ) (from : State) (to : List ℕ) (part : MessagePart) → All (λ (b : OutBatch). b.channel ≡ part.channel) (batches_in_part from to part)
of_channel c from to part =
    take_all part.count (drop part.start (lane_made from to part.channel)) (drop_all part.start (lane_made from to part.channel)
    (mapped (λ (b : OutBatch). is_in_lane to part.channel b ≡ true) (λ (b : OutBatch). b.channel ≡ part.channel) (lane_made from to part.channel)
    (λ b is. same_number b.channel part.channel (and_left (b.channel == part.channel) (bytes_eq b.peer to) is)) (passes (is_in_lane to part.channel) from.batches)))
  where
    take_all : (n : ℕ) (bs : List OutBatch) → All (λ (b : OutBatch). b.channel ≡ part.channel) bs → All (λ (b : OutBatch). b.channel ≡ part.channel) (take n bs)
    take_all n bs are = first_all (λ (b : OutBatch). b.channel ≡ part.channel) (take n bs) (drop n bs)
        (subst (All (λ (b : OutBatch). b.channel ≡ part.channel)) (sym (take-append-drop n bs)) are)

    drop_all : (n : ℕ) (bs : List OutBatch) → All (λ (b : OutBatch). b.channel ≡ part.channel) bs → All (λ (b : OutBatch). b.channel ≡ part.channel) (drop n bs)
    drop_all n bs are = last_all (λ (b : OutBatch). b.channel ≡ part.channel) (take n bs) (drop n bs)
        (subst (All (λ (b : OutBatch). b.channel ≡ part.channel)) (sym (take-append-drop n bs)) are)

filter_part : (c channel : ℕ) (batches : List OutBatch) → All (λ (b : OutBatch). b.channel ≡ channel) batches
    → filter (λ (b : OutBatch). b.channel == c) batches ≡ cond (channel == c) batches []
filter_part c channel [] are = on (channel == c)
  where
    on : (t : Bool) → filter (λ (b : OutBatch). b.channel == c) [] ≡ cond t [] []
    on true = refl
    on false = refl
filter_part c channel (batch ∷ batches) are =
    ap (λ n. cond (n == c) (batch ∷ filter (λ (b : OutBatch). b.channel == c) batches) (filter (λ (b : OutBatch). b.channel == c) batches))
    (all_head (λ (b : OutBatch). b.channel ≡ channel) batch batches are)
    ∙ on (channel == c) (filter_part c channel batches (all_tail (λ (b : OutBatch). b.channel ≡ channel) batch batches are))
  where
    on : (t : Bool) → filter (λ (b : OutBatch). b.channel == c) batches ≡ cond t batches []
        → cond t (batch ∷ filter (λ (b : OutBatch). b.channel == c) batches) (filter (λ (b : OutBatch). b.channel == c) batches) ≡ cond t (batch ∷ batches) []
    on true same = ap (λ bs. batch ∷ bs) same
    on false same = same

part_ready : (config : Config) (from to : State) (c : ℕ) (part : MessagePart) → Ascending Number from.batches → PartOk config from to part
    → Ready (kept_of from to c).highest (made from to c) (filter (λ (b : OutBatch). b.channel == c) (batches_in_part from to.me.id part))
part_ready config from to c part ascend ok =
    subst (Ready (kept_of from to c).highest (made from to c)) (sym (filter_part c part.channel (batches_in_part from to.me.id part) (of_channel c from to.me.id part)))
    (on (part.channel == c) refl)
  where
    on : (t : Bool) → (part.channel == c) ≡ t → Ready (kept_of from to c).highest (made from to c) (cond t (batches_in_part from to.me.id part) [])
    on true same = subst (λ n. Ready (kept_of from to n).highest (made from to n) (batches_in_part from to.me.id part)) (same_number part.channel c same)
        (lane_part config from to part ascend ok)
    on false isnt = tt

parts_ready : (config : Config) (from to : State) (c : ℕ) (parts : List MessagePart) → Ascending Number from.batches → All (PartOk config from to) parts
    → Ready (kept_of from to c).highest (made from to c) (filter (λ (b : OutBatch). b.channel == c) (batches_in_parts from to.me.id parts))
parts_ready config from to c [] ascend are = tt
parts_ready config from to c (part ∷ parts) ascend are =
    subst (λ (bs : List OutBatch). Ready (kept_of from to c).highest (made from to c) (filter (λ (b : OutBatch). b.channel == c) bs))
    (sym (flat_map-cons (batches_in_part from to.me.id) part parts))
    (subst (Ready (kept_of from to c).highest (made from to c))
    (sym (filter-append (λ (b : OutBatch). b.channel == c) (batches_in_part from to.me.id part) (batches_in_parts from to.me.id parts)))
    (ready_append (kept_of from to c).highest (made from to c) (filter (λ (b : OutBatch). b.channel == c) (batches_in_part from to.me.id part))
    (filter (λ (b : OutBatch). b.channel == c) (batches_in_parts from to.me.id parts))
    (part_ready config from to c part ascend (all_head (PartOk config from to) part parts are))
    (parts_ready config from to c parts ascend (all_tail (PartOk config from to) part parts are))))

-- the batches of a message in the order in which it is delivered
pub order_ready : (config : Config) (from to : State) (c : ℕ) (channels : List ℕ) (parts : List MessagePart) → Ascending Number from.batches
    → All (PartOk config from to) parts
    → Ready (kept_of from to c).highest (made from to c) (map (λ (at : ℕ × OutBatch). at.1)
    (filter (is_in_part c) (deliver_order channels (enumerate_from 0 (batches_in_parts from to.me.id parts)))))
order_ready config from to c channels parts ascend are =
    let batches : List OutBatch = batches_in_parts from to.me.id parts in
    subst (Ready (kept_of from to c).highest (made from to c))
    (sym (ap (map (λ (at : ℕ × OutBatch). at.1)) (order_keeps_channels c channels (enumerate_from 0 batches) (places_ascend 0 batches)) ∙ channel_batches c 0 batches))
    (parts_ready config from to c parts ascend are)

-- and each is in a channel that is there
abbrev InRange : Config → ℕ × OutBatch → Type 0
InRange config at = at.1.channel < length config.channels

numbered_range : (config : Config) (first : ℕ) (batches : List OutBatch) → All (λ (b : OutBatch). b.channel < length config.channels) batches
    → All (InRange config) (enumerate_from first batches)
numbered_range config first [] are = All-nil (InRange config)
numbered_range config first (batch ∷ batches) are =
    All-cons (InRange config) (first, batch) (enumerate_from (first + 1) batches) (all_head (λ (b : OutBatch). b.channel < length config.channels) batch batches are)
    (numbered_range config (first + 1) batches (all_tail (λ (b : OutBatch). b.channel < length config.channels) batch batches are))

mentioned_range : (config : Config) (channels : List ℕ) (batches : List (ℕ × OutBatch)) (ats : List (ℕ × ℕ)) → All (InRange config) batches
    → All (InRange config) (filter_map (mentioned_batch channels batches) ats)
mentioned_range config channels batches [] are = All-nil (InRange config)
mentioned_range config channels batches (at ∷ ats) are =
    on (slice_get (in_channel batches at.1) (mentions (take at.0 channels) at.1)) refl (mentioned_range config channels batches ats are)
  where
    on : (found : Option (ℕ × OutBatch)) → slice_get (in_channel batches at.1) (mentions (take at.0 channels) at.1) ≡ found
        → All (InRange config) (filter_map (mentioned_batch channels batches) ats)
        → All (InRange config) (cons_option found (filter_map (mentioned_batch channels batches) ats))
    on None is rest = rest
    on (Some x) is rest = All-cons (InRange config) x (filter_map (mentioned_batch channels batches) ats)
        (slice_all (InRange config) (in_channel batches at.1) (mentions (take at.0 channels) at.1) x (filter_all (InRange config) (is_in_part at.1) batches are) is) rest

pub order_range : (config : Config) (from to : State) (channels : List ℕ) (parts : List MessagePart) → All (PartOk config from to) parts
    → All (λ (at : ℕ × OutBatch). at.1.channel < length config.channels) (deliver_order channels (enumerate_from 0 (batches_in_parts from to.me.id parts)))
order_range config from to channels parts are =
    let batches : List (ℕ × OutBatch) = enumerate_from 0 (batches_in_parts from to.me.id parts) in
    let all : All (InRange config) batches = numbered_range config 0 (batches_in_parts from to.me.id parts)
    (all_flat (λ (b : OutBatch). b.channel < length config.channels) (batches_in_part from to.me.id) parts
    (mapped (PartOk config from to) (λ (part : MessagePart). All (λ (b : OutBatch). b.channel < length config.channels) (batches_in_part from to.me.id part)) parts
    (λ part ok. mapped (λ (b : OutBatch). b.channel ≡ part.channel) (λ (b : OutBatch). b.channel < length config.channels) (batches_in_part from to.me.id part)
    (λ b same. subst (λ c. c < length config.channels) (sym same) ok.within) (of_channel 0 from to.me.id part)) are)) in
    All-append (InRange config) (filter_map (mentioned_batch channels batches) (enumerate_from 0 channels)) (filter (is_left channels batches) batches)
    (mentioned_range config channels batches (enumerate_from 0 channels) all) (filter_all (InRange config) (is_left channels batches) batches all)
