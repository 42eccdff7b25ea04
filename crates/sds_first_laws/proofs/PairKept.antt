-- What is kept of two nodes of which one is written to, routes and pushes, and the other loads.
use Rattle.std.proofs.Common.{◌≡◌, ℕ, ◌+◌, ◌<◌, ◌≤◌, ◌^◌, Bool, true, false, ◌&&◌, ◌||◌, ◌==◌, not, List, [], ◌∷◌, ◌++◌, length, take, drop, map, Option, None, Some, Result, Ok, Err, refl, sym, ap, subst, ◌∙◌, arith, append-nil, append_assoc}
use Rattle.std.specs.Prelude.{nat_le, nat_lt, is_none, if◌then◌else◌, filter, All}
use Rattle.std.specs.List.{list_any}
use Rattle.std.specs.Str.{bytes_eq}
use Rattle.std.proofs.lemmas.Bool.{leb-true}
use Rattle.std.proofs.lemmas.Bool.Decides.{nat_tests}
use Rattle.std.proofs.lemmas.List.{take-append-drop, map-append}
use Rattle.std.proofs.lemmas.List.Elements.{All-head, All-tail}
use Rattle.std.proofs.lemmas.List.Sums.{sum_by-cons}
use Rattle.std.proofs.lemmas.Slice.Eq.{bytes_eq-Decides}
use Rattle.sds_value.specs.declared.row.DocRow.{DocRow}
use Rattle.sds_value.specs.declared.row.Peer.{Peer}
use Rattle.sds_types.specs.declared.config.Config.{Config}
use Rattle.sds_types.specs.declared.ack.Ack.{Ack}
use Rattle.sds_types.specs.declared.ack.AckRefusal.{AckRefusal}
use Rattle.sds_types.specs.declared.node_fault.NodeFault.{NodeFault}
use Rattle.sds_types.specs.declared.write_answer.WriteRefusal.{WriteRefusal}
use Rattle.sds_types.specs.declared.write_answer.Written.{Written}
use Rattle.sds_types.specs.declared.write_answer.Written.TheVariants.{Done, Again}
use Rattle.sds_types.specs.declared.batch.OutBatch.{OutBatch}
use Rattle.sds_first_spec.specs.declared.batch.Sent.{Sent}
use Rattle.sds_first_spec.specs.declared.event.WorldEvent.{WorldEvent}
use Rattle.sds_first_spec.specs.declared.event.WorldEvent.TheVariants.{Node, Open, Register, Write, Route, Push, Show}
use Rattle.sds_types.specs.declared.peer.KeptPeer.{KeptPeer}
use Rattle.sds_types.specs.declared.row.Change.{Change}
use Rattle.sds_types.specs.declared.tx_row.TxRow.{TxRow}
use Rattle.sds_first_spec.specs.Acts.{Act, State, History}
use Rattle.sds_first_spec.specs.Acts.Act.{Wrote, Routed, Loaded, Acked}
use Rattle.sds_first_spec.specs.Batches.{Piece, batches_from}
use Rattle.sds_first_spec.specs.Calls.{may_add, is_peer, unrouted, route_pieces, route_by, write_answer, write_acts, route_answer, route_acts, acks_answer, acks_acts, offer_answer}
use Rattle.sds_first_spec.specs.Cuts.{cut}
use Rattle.sds_first_spec.specs.Happens.{batches_in, write_at, route_at, message_from, sent, delivered, answered, reply_to, pushed, pushed_by, happens, world_after, acks_at}
use Rattle.sds_first_spec.specs.History.{state_of, batches_of, changes_of, last_batch_of, next_pieces, unrouted_of}
use Rattle.sds_first_spec.specs.InStep.{InStep, LaneInStep, PartInStep, MessageInStep, ReplyInStep, EachFromNode, EachToPeer, RoutedOnce, WritersInOrder, taken_of, numbers_of}
use Rattle.sds_first_spec.specs.Lanes.{made, acked, loaded, to_error, most_to_send, batch_at, rows_at, rows_of, offered_in, channels_of}
use Rattle.sds_first_spec.specs.One.{one, paired}
use Rattle.sds_first_spec.specs.Outcome.{is_whole_insert}
use Rattle.sds_first_spec.specs.World.{Part, Message, Reply, World, sent_of, part_of, message_of, received, acks_for, received_parts, acks_for_parts, history_of}
use Rattle.sds_first_laws.specs.Counters.{Rising}
use Rattle.sds_first_laws.specs.Loads.{after_loads, loads_acks, sent_at}
use Rattle.sds_first_laws.specs.Pairs.{pair_world, is_written_row, MayHappen, GoesByCalls, PairFacts, PairsStayInStep}
use Rattle.sds_first_laws.specs.Runs.Call.{Write as MakeWrite, Route as MakeRoute, TakeAcks}
use Rattle.sds_first_laws.proofs.ByNumber.{IsLoadFrom, Meets, SameBoth, by_number, all_loads, loaded_is, behind}
use Rattle.sds_first_laws.proofs.Counted.{batches_rise, rising_further}
use Rattle.sds_first_laws.proofs.Delivery.{AckTaken, IsUnknown, Lanes, same_number}
use Rattle.sds_first_laws.proofs.Each.{Each, all_from_each, each_append, each_weaker, each_map, each_filter, each_of, each_behind, each_front, each_both}
use Rattle.sds_first_laws.proofs.Fronts.{OkFirst, GoesTo, not_ok, ok_count, first_append, open_is_rest, first_acked}
use Rattle.sds_first_laws.proofs.Link.{at, MessageKept, ReplyKept, Kept, Stands, others, write_stands, route_stands, acks_stand, message_kept, kept_delivered, lane_known, lane_within, lane_front, at_first, part_in_step, front_to_error, all_above, after_acks, new_unknown}
use Rattle.sds_first_laws.proofs.Numbers.{IsKept, IsKept-called}
use Rattle.sds_first_laws.proofs.Once.{goes, lane_piece, pieces_are, stays_once}
use Rattle.sds_first_laws.proofs.Whole.{IsOwn, IsWhole, captured_whole, sents_whole}

-- KEPT
abbrev pub MadeTo : Peer → Message → Type 0
MadeTo receiver message = message.receiver ≡ receiver.id

abbrev pub MadeBy : Peer → Peer → Reply → Type 0
MadeBy sender receiver reply = (reply.receiver ≡ receiver.id) × (reply.sender ≡ sender.id)

pub record Pair (sender receiver : Peer) (mine acts : List Act) (messages : List Message) (replies : List Reply) : Type 0 where
  pub stands : Stands one sender receiver mine acts messages replies
  pub writers : (writer : List ℕ) → IsKept one writer (record { opening = paired sender receiver; acts = mine })
  pub numbered : last_batch_of one (paired sender receiver) mine ≤ 2 ^ 62
  pub first : OkFirst (batches_of one (paired sender receiver) mine)
  pub goes_to : Each (GoesTo receiver.id) (batches_of one (paired sender receiver) mine)
  pub own : Each IsOwn mine
  pub loads : Each (IsLoadFrom sender.id) acts
  pub made_to : Each (MadeTo receiver) messages
  pub made_by : Each (MadeBy sender receiver) replies

pub same_name : (name : List ℕ) → bytes_eq name name ≡ true
same_name name = (bytes_eq-Decides name name).1 refl

-- THE ONE LANE holds all batches.
passes_lane : (to : List ℕ) (b : OutBatch) → GoesTo to b → (bytes_eq b.peer to && b.channel == 0) ≡ true
passes_lane to b go = rw (go.0, go.1) (rw (same_name to) refl)

all_pass : (p : OutBatch → Bool) (batches : List OutBatch) → Each (λ (b : OutBatch). p b ≡ true) batches → filter p batches ≡ batches
all_pass p [] each = refl
all_pass p (b ∷ batches) each = rw each.0 (ap (λ (l : List OutBatch). b ∷ l) (all_pass p batches each.1))

pub none_pass : (p : OutBatch → Bool) (batches : List OutBatch) → Each (λ (b : OutBatch). p b ≡ false) batches → filter p batches ≡ []
none_pass p [] each = refl
none_pass p (b ∷ batches) each = rw each.0 (none_pass p batches each.1)

in_one_lane : (to : List ℕ) (batches : List OutBatch) → Each (GoesTo to) batches → filter (λ (b : OutBatch). bytes_eq b.peer to && b.channel == 0) batches ≡ batches
in_one_lane to batches go =
    all_pass (λ (b : OutBatch). bytes_eq b.peer to && b.channel == 0) batches
    (each_weaker (GoesTo to) (λ (b : OutBatch). (bytes_eq b.peer to && b.channel == 0) ≡ true) (λ b g. passes_lane to b g) batches go)

made_is : (sender receiver : Peer) (mine : List Act) → Each (GoesTo receiver.id) (batches_of one (paired sender receiver) mine)
    → made (at one sender (others receiver) mine) receiver.id 0 ≡ batches_of one (paired sender receiver) mine
made_is sender receiver mine go = in_one_lane receiver.id (batches_of one (paired sender receiver) mine) go

-- NUMBERS find their batches.
found_here : (b : OutBatch) (batches : List OutBatch) → batch_at b.id (b ∷ batches) ≡ Some b
found_here b batches = rw (same_number b.id) refl

apart_below : (a b : ℕ) → a < b → (a == b) ≡ false
apart_below a b lt = grind (arith, nat_tests)

all_found : (low high : ℕ) (batches : List OutBatch) → Rising low high batches → Each (λ (b : OutBatch). batch_at b.id batches ≡ Some b) batches
all_found low high [] rising = tt
all_found low high (c ∷ batches) rising = (
  found_here c batches,
  each_both (λ (b : OutBatch). c.id < b.id) (λ (b : OutBatch). batch_at b.id batches ≡ Some b) (λ (b : OutBatch). batch_at b.id (c ∷ batches) ≡ Some b)
      (λ b lt is. rw (apart_below c.id b.id lt) is) batches (all_above c.id c.id high batches (omega arith) rising.1) (all_found c.id high batches rising.1),
)

sent_same : (s : State) (b : OutBatch) → batch_at b.id s.batches ≡ Some b → sent_at one s b.id ≡ sent_of one s b
sent_same s b is = rw is refl

sents_same : (s : State) (batches : List OutBatch) → Each (λ (b : OutBatch). batch_at b.id s.batches ≡ Some b) batches
    → map (sent_at one s) (map (λ (b : OutBatch). b.id) batches) ≡ map (sent_of one s) batches
sents_same s [] each = refl
sents_same s (b ∷ batches) each = ap (λ (x : Sent). x ∷ map (sent_at one s) (map (λ (b : OutBatch). b.id) batches)) (sent_same s b each.0) ∙ ap (λ (l : List Sent). sent_of one s b ∷ l) (sents_same s batches each.1)

-- THE NEXT MESSAGE. Its batches, by what the sender offers and by the places of the lane.
abbrev next_batches : ℕ → State → List ℕ → List OutBatch
next_batches most s to = take most (to_error (drop (acked s to 0) (made s to 0)))

offered_next : (most : ℕ) (batches : List OutBatch) → OkFirst batches → take most (to_error (filter not_ok batches)) ≡ take most (to_error (drop (ok_count batches) batches))
offered_next most batches first = ap (λ (l : List OutBatch). take most (to_error l)) (open_is_rest batches first)

lies_in : (most : ℕ) (batches : List OutBatch) → (more : List OutBatch) × (take most (to_error batches) ++ more ≡ batches)
lies_in most batches =
    let front : (rest : List OutBatch) × (to_error batches ++ rest ≡ batches) = front_to_error batches in (
      drop most (to_error batches) ++ front.0,
      sym (append_assoc (take most (to_error batches)) (drop most (to_error batches)) front.0) ∙ (ap (λ (l : List OutBatch). l ++ front.0) (take-append-drop most (to_error batches)) ∙ front.1),
    )

offered_ids : (s : State) (to ids : List ℕ) → is_peer to s ≡ true → offer_answer one s to [] ≡ Ok ids → ids ≡ map (λ (b : OutBatch). b.id) (offered_in one s to 0)
offered_ids s to ids known is =
    let answer : offer_answer one s to [] ≡ Ok (map (λ (b : OutBatch). b.id) (offered_in one s to 0) ++ []) = rw known refl in
    let same : map (λ (b : OutBatch). b.id) (offered_in one s to 0) ++ [] ≡ ids = cc in
    sym same ∙ append-nil (map (λ (b : OutBatch). b.id) (offered_in one s to 0))

each_drop : (P : OutBatch → Type 0) (n : ℕ) (batches : List OutBatch) → Each P batches → Each P (drop n batches)
each_drop P n batches each = each_behind P (take n batches) (drop n batches) (subst (λ (l : List OutBatch). Each P l) (sym (take-append-drop n batches)) each)

is_known : (sender receiver : Peer) (mine : List Act) → is_peer receiver.id (at one sender (others receiver) mine) ≡ true
is_known sender receiver mine = rw (same_name receiver.id) refl

one_sum : (part : Part) → batches_in (record { sender = []; receiver = []; parts = part ∷ [] }) ≡ length part.batches
one_sum part =
    let e : batches_in (record { sender = []; receiver = []; parts = part ∷ [] }) ≡ length part.batches + 0 = sum_by-cons (λ (p : Part). length p.batches) part [] in omega (arith, e)

pub goes_by_calls : (sender receiver : Peer) (mine acts : List Act) (messages : List Message) (replies : List Reply) → Pair sender receiver mine acts messages replies → GoesByCalls sender receiver mine acts
goes_by_calls sender receiver mine acts messages replies pair =
    let made_all : made (at one sender (others receiver) mine) receiver.id 0 ≡ batches_of one (paired sender receiver) mine = made_is sender receiver mine pair.goes_to in
    let rising : Rising 0 (last_batch_of one (paired sender receiver) mine) (batches_of one (paired sender receiver) mine) = batches_rise one sender (others receiver) mine in
    let front : (more : List OutBatch) × (next_batches 10000 (at one sender (others receiver) mine) receiver.id ++ more ≡ drop (acked (at one sender (others receiver) mine) receiver.id 0) (made (at one sender (others receiver) mine) receiver.id 0)) =
    lies_in 10000 (drop (acked (at one sender (others receiver) mine) receiver.id 0) (made (at one sender (others receiver) mine) receiver.id 0)) in
    let found : Each (λ (b : OutBatch). batch_at b.id (batches_of one (paired sender receiver) mine) ≡ Some b) (next_batches 10000 (at one sender (others receiver) mine) receiver.id) =
    each_front (λ (b : OutBatch). batch_at b.id (batches_of one (paired sender receiver) mine) ≡ Some b) (next_batches 10000 (at one sender (others receiver) mine) receiver.id) front.0
    (subst (λ (l : List OutBatch). Each (λ (b : OutBatch). batch_at b.id (batches_of one (paired sender receiver) mine) ≡ Some b) l) (sym front.1)
    (each_drop (λ (b : OutBatch). batch_at b.id (batches_of one (paired sender receiver) mine) ≡ Some b) (acked (at one sender (others receiver) mine) receiver.id 0) (made (at one sender (others receiver) mine) receiver.id 0)
    (subst (λ (l : List OutBatch). Each (λ (b : OutBatch). batch_at b.id (batches_of one (paired sender receiver) mine) ≡ Some b) l) (sym made_all)
    (all_found 0 (last_batch_of one (paired sender receiver) mine) (batches_of one (paired sender receiver) mine) rising)))) in
    let first : OkFirst (made (at one sender (others receiver) mine) receiver.id 0) = subst OkFirst (sym made_all) pair.first in
    let both : SameBoth (at one sender (others receiver) mine) receiver sender (acked (at one sender (others receiver) mine) receiver.id 0) (next_batches 10000 (at one sender (others receiver) mine) receiver.id) acts =
    by_number (at one sender (others receiver) mine) receiver sender (acked (at one sender (others receiver) mine) receiver.id 0) (next_batches 10000 (at one sender (others receiver) mine) receiver.id) front.0 acts front.1
    (lane_known one (at one sender (others receiver) mine) (made (at one sender (others receiver) mine) receiver.id 0) (taken_of sender.id 0 acts) (loaded sender.id 0 acts) (pair.stands.lanes 0))
    (record {
      loads = pair.loads;
      lanes = pair.stands.lanes;
      rising = subst (λ (l : List OutBatch). Rising 0 (2 ^ 62) l) (sym made_all) (rising_up 0 (last_batch_of one (paired sender receiver) mine) (2 ^ 62) (batches_of one (paired sender receiver) mine) pair.numbered rising);
    }) in
    record {
      known = is_known sender receiver mine;
      sents = map (sent_of one (at one sender (others receiver) mine)) (next_batches 10000 (at one sender (others receiver) mine) receiver.id);
      are = λ ids is.
          ap (λ (l : List ℕ). map (sent_at one (at one sender (others receiver) mine)) l)
          (offered_ids (at one sender (others receiver) mine) receiver.id ids (is_known sender receiver mine) is ∙ ap (λ (l : List OutBatch). map (λ (b : OutBatch). b.id) l) (offered_next 10000 (made (at one sender (others receiver) mine) receiver.id 0) first))
          ∙ sents_same (at one sender (others receiver) mine) (next_batches 10000 (at one sender (others receiver) mine) receiver.id) found;
      count = one_sum (part_of one (at one sender (others receiver) mine) receiver.id 0);
      whole = all_from_each (λ (sent : Sent). All (λ (doc : DocRow). is_whole_insert one doc ≡ true) sent.rows) _
          (sents_whole (at one sender (others receiver) mine) (next_batches 10000 (at one sender (others receiver) mine) receiver.id) (captured_whole sender receiver mine pair.own));
      takes = both.takes;
      says = both.says ∙ sym (append-nil (acks_for one sender.id 0 (acked (at one sender (others receiver) mine) receiver.id 0 + 1) (map (sent_of one (at one sender (others receiver) mine)) (next_batches 10000 (at one sender (others receiver) mine) receiver.id)) acts));
    } where
      rising_up : (low middle high : ℕ) (batches : List OutBatch) → middle ≤ high → Rising low middle batches → Rising low high batches
      rising_up low middle high [] le rising = omega (arith, le, rising)
      rising_up low middle high (b ∷ batches) le rising = (rising.0, rising_up b.id middle high batches le rising.1)
