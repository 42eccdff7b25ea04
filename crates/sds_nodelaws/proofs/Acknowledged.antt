-- Of the batches of a lane the first are acknowledged.
use Rattle.std.proofs.Common.{◌≡◌, ℕ, ◌<◌, ◌≤◌, ◌+◌, Bool, true, false, cond, List, [], ◌∷◌, ◌++◌, length, map, Option, None, Some, refl, sym, ap, subst, ◌∙◌, arith, true≢false, filter, ◌||◌, ◌==◌, ◌&&◌, All, not}
use Rattle.std.specs.List.{list_any}
use Rattle.std.specs.Prelude.{is_some, nat_le}
use Rattle.std.specs.Str.{bytes_eq}
use Rattle.std.proofs.lemmas.List.Elements.{All-nil, All-append}
use Rattle.sds_value.specs.declared.row.Peer.{Peer}
use Rattle.sds_types.specs.declared.ack.Ack.{Ack}
use Rattle.sds_types.specs.declared.batch.NewBatch.{NewBatch}
use Rattle.sds_types.specs.declared.batch.OutBatch.{OutBatch}
use Rattle.sds_types.specs.declared.batch.Standing.TheVariants as standing
use Rattle.sds_types.specs.declared.config.Config.{Config}
use Rattle.sds_trade.proofs.Lists.{all_head, all_tail, passes}
use Rattle.sds_history.specs.history.Acts.{Act, History, State}
use Rattle.sds_history.specs.history.Acts.Act.{Opened, Joined, Confirmed, Wrote, Routed, Loaded, Erred, Acked}
use Rattle.sds_history.specs.history.Changes.{runs_after}
use Rattle.sds_history.specs.history.Made.{batches_by, made_after, next_batches, out_batch, peers_at}
use Rattle.sds_history.specs.history.Messages.{is_in_lane, lane_made}
use Rattle.sds_history.specs.history.Runs.{Run}
use Rattle.sds_history.specs.history.Standings.{acks_from, is_acked, is_ok_for, is_error_of, last_error, same_lane, with_standing}
use Rattle.sds_history.specs.history.States.{new_state, state_of}
use Rattle.sds_nodelaws.specs.Acknowledged.{AckedComeFirst, AckedFirst}
use Rattle.sds_nodelaws.specs.Calls.{Call, act_of, begun, called_all, with_made}
use Rattle.sds_nodelaws.proofs.Counted.{made_ids}
use Rattle.sds_nodelaws.proofs.Held.{any_map, mapped}
use Rattle.sds_nodelaws.proofs.Items.{equal}
use Rattle.sds_nodelaws.proofs.Lists.{Ascending, and_both, and_left, and_right, ascending_filter, ascending_range, filter_all, filter_through, from_le, in_all, is_le, map_all, second_false}
use Rattle.sds_nodelaws.proofs.Splicing.{not_ok}
use Rattle.sds_nodelaws.proofs.Tests.{or_cases, or_left, or_right, same_number}

-- LISTS. Where each that comes before one that passes passes, the first pass
abbrev Down : (OutBatch → Bool) → List OutBatch → Type 0
Down q [] = Unit {0}
Down q (x ∷ xs) = (list_any q xs ≡ true → q x ≡ true) × Down q xs

none_pass : (q : OutBatch → Bool) (xs : List OutBatch) → list_any q xs ≡ false → (filter q xs ≡ []) × (filter (λ x. not (q x)) xs ≡ xs)
none_pass q [] none = (refl, refl)
none_pass q (x ∷ xs) none = on (q x) refl (none_pass q xs)
  where
    on : (b : Bool) → q x ≡ b → (list_any q xs ≡ false → (filter q xs ≡ []) × (filter (λ y. not (q y)) xs ≡ xs))
        → (cond b (x ∷ filter q xs) (filter q xs) ≡ []) × (cond (not b) (x ∷ filter (λ y. not (q y)) xs) (filter (λ y. not (q y)) xs) ≡ x ∷ xs)
    on true is rest = absurd (true≢false (sym (or_left (q x) (list_any q xs) is) ∙ none))
    on false is rest = let both = rest (second_false (q x) (list_any q xs) none) in (both.0, ap (λ ys. x ∷ ys) both.1)

firsts_pass : (q : OutBatch → Bool) (xs : List OutBatch) → Down q xs → xs ≡ filter q xs ++ filter (λ x. not (q x)) xs
firsts_pass q [] down = refl
firsts_pass q (x ∷ xs) down = on (q x) refl (firsts_pass q xs down.1)
  where
    none_on : (b : Bool) → list_any q xs ≡ b → q x ≡ false → list_any q xs ≡ false
    none_on true any is = absurd (true≢false (sym (down.0 any) ∙ is))
    none_on false any is = any

    on : (b : Bool) → q x ≡ b → xs ≡ filter q xs ++ filter (λ y. not (q y)) xs
        → x ∷ xs ≡ cond b (x ∷ filter q xs) (filter q xs) ++ cond (not b) (x ∷ filter (λ y. not (q y)) xs) (filter (λ y. not (q y)) xs)
    on true is rest = ap (λ ys. x ∷ ys) rest
    on false is rest =
        let both = none_pass q xs (none_on (list_any q xs) refl is) in
        sym (ap (λ ys. ys ++ x ∷ filter (λ y. not (q y)) xs) both.0 ∙ ap (λ ys. x ∷ ys) both.1)

-- STANDINGS. What acks say of a batch that wasn't acknowledged
abbrev ok : List OutBatch → List Act → OutBatch → Bool
ok batches acts batch = list_any (is_ok_for batches batch) (acks_from acts batch.peer)

abbrev pub Unacked : OutBatch → Type 0
Unacked batch = is_acked batch.standing ≡ false

abbrev q_of : List OutBatch → List Act → OutBatch → Bool
q_of batches acts batch = is_acked (with_standing batches acts batch).standing

acked_is : (batches : List OutBatch) (acts : List Act) (batch : OutBatch) → Unacked batch → q_of batches acts batch ≡ ok batches acts batch
acked_is batches acts batch isnt =
    ap (λ a. is_acked (cond (a || ok batches acts batch) standing.Acked (last_error (filter (is_error_of batch) (acks_from acts batch.peer)) batch.standing))) isnt
    ∙ on (ok batches acts batch)
  where
    on : (b : Bool) → is_acked (cond (false || b) standing.Acked (last_error (filter (is_error_of batch) (acks_from acts batch.peer)) batch.standing)) ≡ b
    on true = refl
    on false = not_ok (filter (is_error_of batch) (acks_from acts batch.peer)) batch.standing isnt

-- an OK of a batch is one of those before it in its lane
abbrev InLane : List ℕ → ℕ → OutBatch → Type 0
InLane to channel batch = (batch.channel ≡ channel) × (batch.peer ≡ to)

ok_before : (batches : List OutBatch) (x y : OutBatch) (ack : Ack) → x.id < y.id → x.channel ≡ y.channel → x.peer ≡ y.peer → is_ok_for batches y ack ≡ true
    → is_ok_for batches x ack ≡ true
ok_before batches x y ack less channel peer is =
    let rest : (nat_le y.id ack.batch && list_any (λ (o : OutBatch). o.id == ack.batch && same_lane y o) batches) ≡ true =
    and_right (not (is_some ack.error)) (nat_le y.id ack.batch && list_any (λ (o : OutBatch). o.id == ack.batch && same_lane y o) batches) is in
    and_both (not (is_some ack.error)) (nat_le x.id ack.batch && list_any (λ (o : OutBatch). o.id == ack.batch && same_lane x o) batches)
    (and_left (not (is_some ack.error)) (nat_le y.id ack.batch && list_any (λ (o : OutBatch). o.id == ack.batch && same_lane y o) batches) is)
    (and_both (nat_le x.id ack.batch) (list_any (λ (o : OutBatch). o.id == ack.batch && same_lane x o) batches)
    (is_le x.id ack.batch (below x.id y.id ack.batch less (from_le y.id ack.batch (and_left (nat_le y.id ack.batch)
    (list_any (λ (o : OutBatch). o.id == ack.batch && same_lane y o) batches) rest))))
    (ap (λ c. list_any (λ (o : OutBatch). o.id == ack.batch && (c == o.channel && bytes_eq x.peer o.peer)) batches) channel
    ∙ (ap (λ p. list_any (λ (o : OutBatch). o.id == ack.batch && (y.channel == o.channel && bytes_eq p o.peer)) batches) peer
    ∙ and_right (nat_le y.id ack.batch) (list_any (λ (o : OutBatch). o.id == ack.batch && same_lane y o) batches) rest)))
  where
    below : (a b c : ℕ) → a < b → b ≤ c → a ≤ c
    below a b c first second = omega (arith, first, second)

pub oks_before : (batches : List OutBatch) (x y : OutBatch) (acks : List Ack) → x.id < y.id → x.channel ≡ y.channel → x.peer ≡ y.peer
    → list_any (is_ok_for batches y) acks ≡ true → list_any (is_ok_for batches x) acks ≡ true
oks_before batches x y [] less channel peer is = is
oks_before batches x y (ack ∷ acks) less channel peer is =
    or_cases (is_ok_for batches y ack) (list_any (is_ok_for batches y) acks) is
    (λ here. or_left (is_ok_for batches x ack) (list_any (is_ok_for batches x) acks) (ok_before batches x y ack less channel peer here))
    (λ rest. or_right (is_ok_for batches x ack) (list_any (is_ok_for batches x) acks) (oks_before batches x y acks less channel peer rest))

later_ok : (batches : List OutBatch) (acts : List Act) (to : List ℕ) (channel : ℕ) (x : OutBatch) (rest : List OutBatch) → Unacked x → InLane to channel x
    → All Unacked rest → All (InLane to channel) rest → All (λ (y : OutBatch). x.id < y.id) rest
    → list_any (q_of batches acts) rest ≡ true → q_of batches acts x ≡ true
later_ok batches acts to channel x [] unacked lane none lanes after is = absurd (true≢false (sym is))
later_ok batches acts to channel x (y ∷ rest) unacked lane none lanes after is =
    or_cases (q_of batches acts y) (list_any (q_of batches acts) rest) is
    (λ here. let at : InLane to channel y = all_head (InLane to channel) y rest lanes in
    acked_is batches acts x unacked ∙ oks_before batches x y (acks_from acts x.peer) (all_head (λ (z : OutBatch). x.id < z.id) y rest after) (lane.0 ∙ sym at.0) (lane.1 ∙ sym at.1)
    (ap (λ p. list_any (is_ok_for batches y) (acks_from acts p)) (lane.1 ∙ sym at.1) ∙ (sym (acked_is batches acts y (all_head Unacked y rest none)) ∙ here)))
    (λ more. later_ok batches acts to channel x rest unacked lane (all_tail Unacked y rest none) (all_tail (InLane to channel) y rest lanes)
    (all_tail (λ (z : OutBatch). x.id < z.id) y rest after) more)

downs : (batches : List OutBatch) (acts : List Act) (to : List ℕ) (channel : ℕ) (lane : List OutBatch) → All Unacked lane → All (InLane to channel) lane
    → Ascending (λ (b : OutBatch). b.id) lane → Down (λ (b : OutBatch). is_acked b.standing) (map (with_standing batches acts) lane)
downs batches acts to channel [] none lanes ascend = tt
downs batches acts to channel (x ∷ lane) none lanes ascend = (
  (λ any. later_ok batches acts to channel x lane (all_head Unacked x lane none) (all_head (InLane to channel) x lane lanes) (all_tail Unacked x lane none)
      (all_tail (InLane to channel) x lane lanes) ascend.0
      (sym (any_map (λ (b : OutBatch). is_acked b.standing) (with_standing batches acts) lane) ∙ any)),
  downs batches acts to channel lane (all_tail Unacked x lane none) (all_tail (InLane to channel) x lane lanes) ascend.1,
)

-- batches are made unacknowledged
pub made_unacked : (config : Config) (opening : State) (runs : List Run) → All Unacked (made_after config opening runs)
made_unacked config opening [] = All-nil Unacked
made_unacked config opening (run ∷ older) = by_act run.act (made_unacked config opening older)
  where
    by_act : (act : Act) → All Unacked (made_after config opening older) → All Unacked (batches_by config opening act older (made_after config opening older))
    by_act Routed before =
        All-append Unacked (made_after config opening older)
        (next_batches config opening (opening.counts.last_batch + length (made_after config opening older) + 1) older) before
        (map_all Unacked (out_batch (peers_at opening older)) _ (in_all (λ (b : NewBatch). Unacked (out_batch (peers_at opening older) b)) _ (λ b is. refl)))
    by_act (Opened group external token) before = before
    by_act (Joined kept) before = before
    by_act (Confirmed peer) before = before
    by_act (Wrote writer number rows) before = before
    by_act (Loaded channel batch) before = before
    by_act (Erred from channel error) before = before
    by_act (Acked from acks) before = before

-- the history of a node that began
pub began : (config : Config) (me : Peer) (calls : List Call) → (called_all config (begun me) calls).opening ≡ new_state me
began config me [] = refl
began config me (call ∷ older) = on (act_of config (state_of config (called_all config (begun me) older)) call) (began config me older)
  where
    on : (made : Option Act) → (called_all config (begun me) older).opening ≡ new_state me → (with_made (called_all config (begun me) older) made).opening ≡ new_state me
    on None same = same
    on (Some act) same = same

acked_first : (config : Config) (me : Peer) (acts : List Act) (to : List ℕ) (channel : ℕ)
    → AckedFirst (state_of config (record { opening = new_state me; acts = acts })) to channel
acked_first config me acts to channel =
    let history : History = record { opening = new_state me; acts = acts } in
    let all : List OutBatch = made_after config (new_state me) (runs_after config (new_state me) acts) in
    let lane : List OutBatch = filter (is_in_lane to channel) all in
    let same : lane_made (state_of config history) to channel ≡ map (with_standing all acts) lane =
    filter_through (is_in_lane to channel) (with_standing all acts) all (λ b. refl) in
    subst (λ bs. bs ≡ filter (λ (b : OutBatch). is_acked b.standing) bs ++ filter (λ (b : OutBatch). not (is_acked b.standing)) bs) (sym same)
    (firsts_pass (λ (b : OutBatch). is_acked b.standing) (map (with_standing all acts) lane)
    (downs all acts to channel lane (filter_all Unacked (is_in_lane to channel) all (made_unacked config (new_state me) (runs_after config (new_state me) acts)))
    (mapped (λ (b : OutBatch). is_in_lane to channel b ≡ true) (InLane to channel) lane
    (λ b is. (same_number b.channel channel (and_left (b.channel == channel) (bytes_eq b.peer to) is), equal b.peer to (and_right (b.channel == channel) (bytes_eq b.peer to) is)))
    (passes (is_in_lane to channel) all))
    (ascending_filter (λ (b : OutBatch). b.id) (is_in_lane to channel) all
    (ascending_range (λ (b : OutBatch). b.id) all 1 (length all) (made_ids config (new_state me) (runs_after config (new_state me) acts))))))

pub acked_come_first : AckedComeFirst
acked_come_first config me calls to channel =
    on (called_all config (begun me) calls).opening (called_all config (begun me) calls).acts (began config me calls)
  where
    on : (opening : State) (acts : List Act) → opening ≡ new_state me → AckedFirst (state_of config (record { opening = opening; acts = acts })) to channel
    on opening acts same = subst (λ (o : State). AckedFirst (state_of config (record { opening = o; acts = acts })) to channel) (sym same) (acked_first config me acts to channel)
