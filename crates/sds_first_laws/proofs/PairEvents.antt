-- Every event of two nodes keeps what is kept of them, and from it follows that they are in step.
use Rattle.std.proofs.Common.{◌≡◌, ℕ, ◌+◌, ◌<◌, ◌≤◌, ◌^◌, Bool, true, false, ◌&&◌, ◌||◌, ◌==◌, not, List, [], ◌∷◌, ◌++◌, length, take, map, Option, None, Some, Result, Ok, Err, refl, sym, ap, subst, ◌∙◌, arith}
use Rattle.std.specs.Prelude.{nat_le, nat_lt, is_none, is_some, if◌then◌else◌, filter, count_by, All, IfSome}
use Rattle.std.specs.List.{list_any}
use Rattle.std.specs.Str.{bytes_eq}
use Rattle.std.proofs.lemmas.Bool.{leb-true}
use Rattle.std.proofs.lemmas.List.Elements.{All-head, All-tail}
use Rattle.std.proofs.lemmas.Slice.Eq.{bytes_eq-Decides}
use Rattle.sds_value.specs.declared.row.Peer.{Peer}
use Rattle.sds_types.specs.declared.ack.Ack.{Ack}
use Rattle.sds_types.specs.declared.ack.AckRefusal.{AckRefusal}
use Rattle.sds_types.specs.declared.node_fault.NodeFault.{NodeFault}
use Rattle.sds_types.specs.declared.node_fault.NodeFault.TheVariants.{Counters}
use Rattle.sds_types.specs.declared.write_answer.WriteRefusal.{WriteRefusal}
use Rattle.sds_types.specs.declared.write_answer.Written.{Written}
use Rattle.sds_types.specs.declared.write_answer.Written.TheVariants.{Done, Again}
use Rattle.sds_types.specs.declared.batch.OutBatch.{OutBatch}
use Rattle.sds_first_spec.specs.declared.event.WorldEvent.{WorldEvent}
use Rattle.sds_first_spec.specs.declared.event.WorldEvent.TheVariants.{Node, Open, Register, Write, Route, Push, Show}
use Rattle.sds_types.specs.declared.peer.KeptPeer.{KeptPeer}
use Rattle.sds_types.specs.declared.row.Change.{Change}
use Rattle.sds_first_spec.specs.declared.row.LoadRow.{LoadRow}
use Rattle.sds_types.specs.declared.tx_row.TxRow.{TxRow}
use Rattle.sds_first_spec.specs.Acts.{Act, State, History}
use Rattle.sds_first_spec.specs.Acts.Act.{Wrote, Routed, Loaded, Acked}
use Rattle.sds_first_spec.specs.Batches.{Piece, batches_from}
use Rattle.sds_first_spec.specs.Calls.{may_add, unrouted, route_pieces, route_by, write_answer, write_acts, route_answer, route_acts, acks_answer, acks_acts}
use Rattle.sds_first_spec.specs.Cuts.{cut}
use Rattle.sds_first_spec.specs.Happens.{batches_in, message_from, reply_to, delivered, answered, pushed_by, happens, world_after}
use Rattle.sds_first_spec.specs.History.{batches_of, last_batch_of, next_pieces, unrouted_of, state_of}
use Rattle.sds_first_spec.specs.InStep.{InStep, LaneInStep, PartInStep, MessageInStep, ReplyInStep, EachFromNode, EachToPeer, RoutedOnce, WritersInOrder, IsCountdown, taken_of, numbers_of, is_taken, taken_as}
use Rattle.sds_first_spec.specs.Lanes.{is_ok, made, acked, loaded}
use Rattle.sds_first_spec.specs.One.{one, paired}
use Rattle.sds_first_spec.specs.World.{Message, Reply, World, part_of, message_of, received_parts, acks_for_parts, history_of}
use Rattle.sds_first_laws.specs.Pairs.{pair_world, is_written_row, MayHappen, PairFacts, PairsStayInStep}
use Rattle.sds_first_laws.specs.Runs.Call.{Write as MakeWrite, Route as MakeRoute, TakeAcks}
use Rattle.sds_first_laws.proofs.ByNumber.{IsLoadFrom, all_loads}
use Rattle.sds_first_laws.proofs.Counted.{batches_rise}
use Rattle.sds_first_laws.proofs.Delivery.{AckTaken, IsUnknown}
use Rattle.sds_first_laws.proofs.Each.{Each, all_from_each, each_append, each_weaker, each_map}
use Rattle.sds_first_laws.proofs.Fronts.{OkFirst, GoesTo, first_append, first_acked}
use Rattle.sds_first_laws.proofs.Link.{at, MessageKept, ReplyKept, Kept, Stands, others, link_of, write_stands, route_stands, acks_stand, message_kept, kept_delivered, lane_known, lane_within, lane_front, at_first, part_in_step, after_acks, new_unknown, not_true}
use Rattle.sds_first_laws.proofs.Numbers.{IsKept, IsKept-called}
use Rattle.sds_first_laws.proofs.Once.{goes, lane_piece, pieces_are, stays_once}
use Rattle.sds_first_laws.proofs.PairKept.{Pair, MadeTo, MadeBy, same_name, none_pass, goes_by_calls}
use Rattle.sds_first_laws.proofs.Whole.{IsOwn}

-- WRITE
wrote_rest : (sender receiver : Peer) (mine acts : List Act) (messages : List Message) (replies : List Reply) (r : Result Written WriteRefusal) (writer : List ℕ) (number : ℕ) (rows : List TxRow)
    → All (λ (row : TxRow). is_written_row row ≡ true) rows
    → ((name : List ℕ) → IsKept one name (record { opening = paired sender receiver; acts = write_acts r writer number rows ++ mine }))
    → Pair sender receiver mine acts messages replies → Pair sender receiver (write_acts r writer number rows ++ mine) acts messages replies
wrote_rest sender receiver mine acts messages replies (Ok (Done first count)) writer number rows are writers pair = record {
  stands = write_stands one sender receiver mine acts messages replies (Ok (Done first count)) writer number rows pair.stands;
  writers = writers;
  numbered = pair.numbered;
  first = pair.first;
  goes_to = pair.goes_to;
  own = (are, pair.own);
  loads = pair.loads;
  made_to = pair.made_to;
  made_by = pair.made_by;
}
wrote_rest sender receiver mine acts messages replies (Ok (Again first count)) writer number rows are writers pair = pair
wrote_rest sender receiver mine acts messages replies (Err refusal) writer number rows are writers pair = pair

pair_wrote : (sender receiver : Peer) (mine acts : List Act) (messages : List Message) (replies : List Reply) (writer : List ℕ) (number : ℕ) (rows : List TxRow)
    → All (λ (row : TxRow). is_written_row row ≡ true) rows → Pair sender receiver mine acts messages replies
    → Pair sender receiver (write_acts (write_answer one (at one sender (others receiver) mine) writer number rows) writer number rows ++ mine) acts messages replies
pair_wrote sender receiver mine acts messages replies writer number rows are pair =
    wrote_rest sender receiver mine acts messages replies (write_answer one (at one sender (others receiver) mine) writer number rows) writer number rows are
    (λ name. IsKept-called one name (record { opening = paired sender receiver; acts = mine }) (MakeWrite writer number rows) (pair.writers name)) pair

-- ROUTE
by_both : (a b : Bool) (batches n : ℕ) → (if a && b then Ok batches else Err Counters) ≡ Ok n → b ≡ true
by_both true true batches n is = refl
by_both true false batches n is = absurd (cc)
by_both false b batches n is = absurd (cc)

routed_fits : (s : State) (changes : List Change) (batches n : ℕ) → route_by changes s batches ≡ Ok n → nat_lt 0 (length changes) ≡ true → s.counts.last_batch + batches ≤ 2 ^ 62
routed_fits s [] batches n is some = absurd (cc)
routed_fits s (c ∷ changes) batches n is some = leb-true (s.counts.last_batch + batches) (2 ^ 62) (by_both (may_add s.counts.acts 1) (may_add s.counts.last_batch batches) batches n is)

lane_goes : (to : List ℕ) (id : ℕ) (cuts : List (List Change)) → Each (GoesTo to) (batches_from id (map (lane_piece to) cuts))
lane_goes to id [] = tt
lane_goes to id (piece ∷ cuts) = ((refl, refl), lane_goes to (id + 1) cuts)

new_goes : (sender receiver : Peer) (mine : List Act) (id : ℕ) → Each (GoesTo receiver.id) (batches_from id (next_pieces one (paired sender receiver) mine))
new_goes sender receiver mine id =
    subst (λ (pieces : List Piece). Each (GoesTo receiver.id) (batches_from id pieces)) (sym (pieces_are sender receiver mine))
    (lane_goes receiver.id id (cut 10000 (filter (goes sender receiver mine) (unrouted_of one (paired sender receiver) mine))))

routed_by : (sender receiver : Peer) (mine acts : List Act) (messages : List Message) (replies : List Reply) (n : ℕ) (b : Bool) → route_answer one (at one sender (others receiver) mine) ≡ Ok n
    → nat_lt 0 (length (unrouted (at one sender (others receiver) mine))) ≡ b
    → ((name : List ℕ) → IsKept one name (record { opening = paired sender receiver; acts = (if b then Routed ∷ [] else []) ++ mine }))
    → Stands one sender receiver ((if b then Routed ∷ [] else []) ++ mine) acts messages replies
    → Pair sender receiver mine acts messages replies → Pair sender receiver ((if b then Routed ∷ [] else []) ++ mine) acts messages replies
routed_by sender receiver mine acts messages replies n true is some writers stands pair = record {
  stands = stands;
  writers = writers;
  numbered = routed_fits (at one sender (others receiver) mine) (unrouted (at one sender (others receiver) mine)) (length (route_pieces one (at one sender (others receiver) mine))) n is some;
  first = first_append (batches_of one (paired sender receiver) mine) (batches_from (last_batch_of one (paired sender receiver) mine + 1) (next_pieces one (paired sender receiver) mine)) pair.first
      (new_unknown (last_batch_of one (paired sender receiver) mine + 1) (next_pieces one (paired sender receiver) mine));
  goes_to = each_append (GoesTo receiver.id) (batches_of one (paired sender receiver) mine) _ pair.goes_to (new_goes sender receiver mine (last_batch_of one (paired sender receiver) mine + 1));
  own = (tt, pair.own);
  loads = pair.loads;
  made_to = pair.made_to;
  made_by = pair.made_by;
}
routed_by sender receiver mine acts messages replies n false is some writers stands pair = pair

routed_rest : (sender receiver : Peer) (mine acts : List Act) (messages : List Message) (replies : List Reply) (r : Result ℕ NodeFault) → route_answer one (at one sender (others receiver) mine) ≡ r
    → ((name : List ℕ) → IsKept one name (record { opening = paired sender receiver; acts = route_acts r (at one sender (others receiver) mine) ++ mine }))
    → Stands one sender receiver (route_acts r (at one sender (others receiver) mine) ++ mine) acts messages replies
    → Pair sender receiver mine acts messages replies → Pair sender receiver (route_acts r (at one sender (others receiver) mine) ++ mine) acts messages replies
routed_rest sender receiver mine acts messages replies (Err fault) is writers stands pair = pair
routed_rest sender receiver mine acts messages replies (Ok n) is writers stands pair =
    routed_by sender receiver mine acts messages replies n (nat_lt 0 (length (unrouted (at one sender (others receiver) mine)))) is refl writers stands pair

pair_routed : (sender receiver : Peer) (mine acts : List Act) (messages : List Message) (replies : List Reply) → Pair sender receiver mine acts messages replies
    → Pair sender receiver (route_acts (route_answer one (at one sender (others receiver) mine)) (at one sender (others receiver) mine) ++ mine) acts messages replies
pair_routed sender receiver mine acts messages replies pair =
    routed_rest sender receiver mine acts messages replies (route_answer one (at one sender (others receiver) mine)) refl
    (λ name. IsKept-called one name (record { opening = paired sender receiver; acts = mine }) MakeRoute (pair.writers name))
    (route_stands one sender receiver mine acts messages replies (route_answer one (at one sender (others receiver) mine)) (at one sender (others receiver) mine) pair.stands) pair

-- PUSH: a message, its delivery, and the answer of its reply
abbrev pub next_message : Peer → Peer → List Act → Message
next_message sender receiver mine = message_of one (at one sender (others receiver) mine) receiver.id []

abbrev pub reply_of : Peer → Peer → Message → List Act → Reply
reply_of sender receiver message acts = record { receiver = receiver.id; sender = sender.id; acks = acks_for_parts one sender.id message.parts acts }

pair_sent : (sender receiver : Peer) (mine acts : List Act) (messages : List Message) (replies : List Reply) → Pair sender receiver mine acts messages replies
    → Pair sender receiver mine acts (next_message sender receiver mine ∷ messages) replies
pair_sent sender receiver mine acts messages replies pair = record {
  stands = record {
    lanes = pair.stands.lanes;
    lie = (message_kept one (at one sender (others receiver) mine) receiver.id sender.id acts refl pair.stands.lanes, pair.stands.lie);
    name = pair.stands.name;
  };
  writers = pair.writers;
  numbered = pair.numbered;
  first = pair.first;
  goes_to = pair.goes_to;
  own = pair.own;
  loads = pair.loads;
  made_to = (refl, pair.made_to);
  made_by = pair.made_by;
}

pair_delivered : (sender receiver : Peer) (mine acts : List Act) (messages : List Message) (replies : List Reply) → Pair sender receiver mine acts messages replies
    → Pair sender receiver mine (received_parts one sender.id (next_message sender receiver mine).parts acts) messages (reply_of sender receiver (next_message sender receiver mine) acts ∷ replies)
pair_delivered sender receiver mine acts messages replies pair = record {
  stands = kept_delivered one (at one sender (others receiver) mine) receiver.id sender.id acts messages replies (next_message sender receiver mine)
      (message_kept one (at one sender (others receiver) mine) receiver.id sender.id acts refl pair.stands.lanes) pair.stands;
  writers = pair.writers;
  numbered = pair.numbered;
  first = pair.first;
  goes_to = pair.goes_to;
  own = pair.own;
  loads = all_loads sender.id ((part_of one (at one sender (others receiver) mine) receiver.id 0).start + 1) (part_of one (at one sender (others receiver) mine) receiver.id 0).batches acts pair.loads;
  made_to = pair.made_to;
  made_by = ((refl, refl), pair.made_by);
}

acked_by : (sender receiver : Peer) (mine acts : List Act) (messages : List Message) (replies : List Reply) (acks : List Ack) (b : Bool)
    → ((name : List ℕ) → IsKept one name (record { opening = paired sender receiver; acts = (if b then [] else Acked receiver.id acks ∷ []) ++ mine }))
    → Stands one sender receiver ((if b then [] else Acked receiver.id acks ∷ []) ++ mine) acts messages replies
    → Pair sender receiver mine acts messages replies → Pair sender receiver ((if b then [] else Acked receiver.id acks ∷ []) ++ mine) acts messages replies
acked_by sender receiver mine acts messages replies acks true writers stands pair = pair
acked_by sender receiver mine acts messages replies acks false writers stands pair = record {
  stands = stands;
  writers = writers;
  numbered = pair.numbered;
  first = first_acked receiver.id (batches_of one (paired sender receiver) mine) acks 0 (last_batch_of one (paired sender receiver) mine) (batches_of one (paired sender receiver) mine)
      (batches_rise one sender (others receiver) mine) pair.goes_to pair.first;
  goes_to = each_map (GoesTo receiver.id) (after_acks (batches_of one (paired sender receiver) mine) acks) (batches_of one (paired sender receiver) mine)
      (each_weaker (GoesTo receiver.id) (λ (b : OutBatch). GoesTo receiver.id (after_acks (batches_of one (paired sender receiver) mine) acks b)) (λ b go. (go.0, go.1)) (batches_of one (paired sender receiver) mine) pair.goes_to);
  own = (tt, pair.own);
  loads = pair.loads;
  made_to = pair.made_to;
  made_by = pair.made_by;
}

acked_rest : (sender receiver : Peer) (mine acts : List Act) (messages : List Message) (replies : List Reply) (acks : List Ack) (r : Result ℕ AckRefusal)
    → ((name : List ℕ) → IsKept one name (record { opening = paired sender receiver; acts = acks_acts r receiver.id acks ++ mine }))
    → Stands one sender receiver (acks_acts r receiver.id acks ++ mine) acts messages replies
    → Pair sender receiver mine acts messages replies → Pair sender receiver (acks_acts r receiver.id acks ++ mine) acts messages replies
acked_rest sender receiver mine acts messages replies acks (Err refusal) writers stands pair = pair
acked_rest sender receiver mine acts messages replies acks (Ok changed) writers stands pair = acked_by sender receiver mine acts messages replies acks (changed == 0) writers stands pair

pair_answered : (sender receiver : Peer) (mine acts : List Act) (messages : List Message) (replies : List Reply) (acks : List Ack) → Each (AckTaken sender.id acts) acks → Pair sender receiver mine acts messages replies
    → Pair sender receiver (acks_acts (acks_answer (at one sender (others receiver) mine) receiver.id acks) receiver.id acks ++ mine) acts messages replies
pair_answered sender receiver mine acts messages replies acks named pair =
    acked_rest sender receiver mine acts messages replies acks (acks_answer (at one sender (others receiver) mine) receiver.id acks)
    (λ name. IsKept-called one name (record { opening = paired sender receiver; acts = mine }) (TakeAcks receiver.id acks) (pair.writers name))
    (acks_stand one sender receiver mine acts messages replies (acks_answer (at one sender (others receiver) mine) receiver.id acks) receiver.id acks named pair.stands) pair

-- WORLDS of the two
pub message_is : (sender receiver : Peer) (mine acts : List Act) (messages : List Message) (replies : List Reply)
    → message_from one sender.id receiver.id (pair_world sender receiver mine acts messages replies) ≡ next_message sender receiver mine
message_is sender receiver mine acts messages replies = rw (same_name sender.id) refl

world_wrote : (sender receiver : Peer) (mine acts : List Act) (messages : List Message) (replies : List Reply) (writer : List ℕ) (number : ℕ) (rows : List TxRow)
    → happens one (pair_world sender receiver mine acts messages replies) (Write sender.id writer number rows)
    ≡ pair_world sender receiver (write_acts (write_answer one (at one sender (others receiver) mine) writer number rows) writer number rows ++ mine) acts messages replies
world_wrote sender receiver mine acts messages replies writer number rows = rw (same_name sender.id) refl

world_routed : (sender receiver : Peer) (mine acts : List Act) (messages : List Message) (replies : List Reply)
    → happens one (pair_world sender receiver mine acts messages replies) (Route sender.id)
    ≡ pair_world sender receiver (route_acts (route_answer one (at one sender (others receiver) mine)) (at one sender (others receiver) mine) ++ mine) acts messages replies
world_routed sender receiver mine acts messages replies = rw (same_name sender.id) refl

pub world_delivered : (sender receiver : Peer) (mine acts : List Act) (messages : List Message) (replies : List Reply) → bytes_eq sender.id receiver.id ≡ false
    → delivered one (next_message sender receiver mine) (pair_world sender receiver mine acts messages replies)
    ≡ pair_world sender receiver mine (received_parts one sender.id (next_message sender receiver mine).parts acts) messages (reply_of sender receiver (next_message sender receiver mine) acts ∷ replies)
world_delivered sender receiver mine acts messages replies apart = rw (apart, same_name receiver.id) refl

world_answered : (sender receiver : Peer) (mine acts : List Act) (messages : List Message) (replies : List Reply) (acks : List Ack)
    → answered one (record { receiver = receiver.id; sender = sender.id; acks = acks }) (pair_world sender receiver mine acts messages replies)
    ≡ pair_world sender receiver (acks_acts (acks_answer (at one sender (others receiver) mine) receiver.id acks) receiver.id acks ++ mine) acts messages replies
world_answered sender receiver mine acts messages replies acks = rw (same_name sender.id) refl

-- a world of the two of which all that is kept holds
record Next (sender receiver : Peer) (w : World) : Type 0 where
  mine : List Act
  acts : List Act
  messages : List Message
  replies : List Reply
  is : w ≡ pair_world sender receiver mine acts messages replies
  pair : Pair sender receiver mine acts messages replies

pub reply_is : (sender receiver : Peer) (mine acts : List Act) (messages : List Message) (replies : List Reply) → bytes_eq sender.id receiver.id ≡ false
    → reply_to one (next_message sender receiver mine) (pair_world sender receiver mine acts messages replies) ≡ reply_of sender receiver (next_message sender receiver mine) acts
reply_is sender receiver mine acts messages replies apart = rw (apart, same_name receiver.id) refl

next_pushed : (sender receiver : Peer) (mine acts : List Act) (messages : List Message) (replies : List Reply) (count : ℕ) (t : Bool) → (count == 0) ≡ t → bytes_eq sender.id receiver.id ≡ false
    → Pair sender receiver mine acts messages replies → Next sender receiver (pushed_by count one (next_message sender receiver mine) (pair_world sender receiver mine acts messages replies))
next_pushed sender receiver mine acts messages replies count true is apart pair = rw is (record { mine = mine; acts = acts; messages = messages; replies = replies; is = refl; pair = pair })
next_pushed sender receiver mine acts messages replies count false is apart pair =
    let further : Pair sender receiver mine (received_parts one sender.id (next_message sender receiver mine).parts acts) messages (reply_of sender receiver (next_message sender receiver mine) acts ∷ replies) =
    pair_delivered sender receiver mine acts messages replies pair in
    rw is (record {
      mine = acks_acts (acks_answer (at one sender (others receiver) mine) receiver.id (acks_for_parts one sender.id (next_message sender receiver mine).parts acts)) receiver.id (acks_for_parts one sender.id (next_message sender receiver mine).parts acts) ++ mine;
      acts = received_parts one sender.id (next_message sender receiver mine).parts acts;
      messages = messages;
      replies = reply_of sender receiver (next_message sender receiver mine) acts ∷ replies;
      is = ap (λ (r : Reply). answered one r (delivered one (next_message sender receiver mine) (pair_world sender receiver mine acts messages replies))) (reply_is sender receiver mine acts messages replies apart)
          ∙ (ap (λ (w : World). answered one (reply_of sender receiver (next_message sender receiver mine) acts) w) (world_delivered sender receiver mine acts messages replies apart)
          ∙ world_answered sender receiver mine (received_parts one sender.id (next_message sender receiver mine).parts acts) messages (reply_of sender receiver (next_message sender receiver mine) acts ∷ replies)
          (acks_for_parts one sender.id (next_message sender receiver mine).parts acts));
      pair = pair_answered sender receiver mine (received_parts one sender.id (next_message sender receiver mine).parts acts) messages (reply_of sender receiver (next_message sender receiver mine) acts ∷ replies)
          (acks_for_parts one sender.id (next_message sender receiver mine).parts acts) further.stands.name.0 further;
    })

push_next : (sender receiver : Peer) (mine acts : List Act) (messages : List Message) (replies : List Reply) → bytes_eq sender.id receiver.id ≡ false
    → Pair sender receiver mine acts messages replies → Next sender receiver (happens one (pair_world sender receiver mine acts messages replies) (Push sender.id receiver.id))
push_next sender receiver mine acts messages replies apart pair =
    let go : Next sender receiver (pushed_by (batches_in (next_message sender receiver mine)) one (next_message sender receiver mine) (pair_world sender receiver mine acts (next_message sender receiver mine ∷ messages) replies)) =
    next_pushed sender receiver mine acts (next_message sender receiver mine ∷ messages) replies (batches_in (next_message sender receiver mine)) (batches_in (next_message sender receiver mine) == 0) refl apart
    (pair_sent sender receiver mine acts messages replies pair) in
    subst (λ (m : Message). Next sender receiver (pushed_by (batches_in m) one m (pair_world sender receiver mine acts (m ∷ messages) replies))) (sym (message_is sender receiver mine acts messages replies)) go

next : (sender receiver : Peer) → bytes_eq sender.id receiver.id ≡ false → (mine acts : List Act) (messages : List Message) (replies : List Reply) → Pair sender receiver mine acts messages replies
    → (event : WorldEvent) → MayHappen sender receiver event → Next sender receiver (happens one (pair_world sender receiver mine acts messages replies) event)
next sender receiver apart mine acts messages replies pair (Node peer) may = absurd may
next sender receiver apart mine acts messages replies pair (Open place group external) may = absurd may
next sender receiver apart mine acts messages replies pair (Register asks place) may = absurd may
next sender receiver apart mine acts messages replies pair (Write node writer number rows) may =
    subst (λ (name : List ℕ). Next sender receiver (happens one (pair_world sender receiver mine acts messages replies) (Write name writer number rows))) (sym may.0)
    (record {
      mine = write_acts (write_answer one (at one sender (others receiver) mine) writer number rows) writer number rows ++ mine;
      acts = acts;
      messages = messages;
      replies = replies;
      is = world_wrote sender receiver mine acts messages replies writer number rows;
      pair = pair_wrote sender receiver mine acts messages replies writer number rows may.1 pair;
    })
next sender receiver apart mine acts messages replies pair (Route node) may =
    subst (λ (name : List ℕ). Next sender receiver (happens one (pair_world sender receiver mine acts messages replies) (Route name))) (sym may)
    (record {
      mine = route_acts (route_answer one (at one sender (others receiver) mine)) (at one sender (others receiver) mine) ++ mine;
      acts = acts;
      messages = messages;
      replies = replies;
      is = world_routed sender receiver mine acts messages replies;
      pair = pair_routed sender receiver mine acts messages replies pair;
    })
next sender receiver apart mine acts messages replies pair (Push from to) may =
    subst (λ (name : List ℕ). Next sender receiver (happens one (pair_world sender receiver mine acts messages replies) (Push name to))) (sym may.0)
    (subst (λ (name : List ℕ). Next sender receiver (happens one (pair_world sender receiver mine acts messages replies) (Push sender.id name))) (sym may.1)
    (push_next sender receiver mine acts messages replies apart pair))
next sender receiver apart mine acts messages replies pair (Show node) may =
    record { mine = mine; acts = acts; messages = messages; replies = replies; is = refl; pair = pair }

always : (sender receiver : Peer) → bytes_eq sender.id receiver.id ≡ false → (events : List WorldEvent) → All (MayHappen sender receiver) events
    → (mine acts : List Act) (messages : List Message) (replies : List Reply) → Pair sender receiver mine acts messages replies
    → Next sender receiver (world_after one (pair_world sender receiver mine acts messages replies) events)
always sender receiver apart [] may mine acts messages replies pair = record { mine = mine; acts = acts; messages = messages; replies = replies; is = refl; pair = pair }
always sender receiver apart (event ∷ events) may mine acts messages replies pair =
    let n : Next sender receiver (happens one (pair_world sender receiver mine acts messages replies) event) =
    next sender receiver apart mine acts messages replies pair event (All-head (MayHappen sender receiver) event events may) in
    subst (λ (w : World). Next sender receiver (world_after one w events)) (sym n.is)
    (always sender receiver apart events (All-tail (MayHappen sender receiver) event events may) n.mine n.acts n.messages n.replies n.pair)

pair_first : (sender receiver : Peer) → Pair sender receiver [] [] [] []
pair_first sender receiver = record {
  stands = at_first one sender receiver;
  writers = λ name. record { countdown = tt; greatest = refl };
  numbered = omega arith;
  first = tt;
  goes_to = tt;
  own = tt;
  loads = tt;
  made_to = tt;
  made_by = tt;
}

-- IN STEP
pub sender_found : (sender receiver : Peer) (mine acts : List Act) (messages : List Message) (replies : List Reply)
    → history_of sender.id (pair_world sender receiver mine acts messages replies).nodes ≡ Some (record { opening = paired sender receiver; acts = mine })
sender_found sender receiver mine acts messages replies = rw (same_name sender.id) refl

pub receiver_found : (sender receiver : Peer) (mine acts : List Act) (messages : List Message) (replies : List Reply) → bytes_eq sender.id receiver.id ≡ false
    → history_of receiver.id (pair_world sender receiver mine acts messages replies).nodes ≡ Some (record { opening = paired receiver sender; acts = acts })
receiver_found sender receiver mine acts messages replies apart = rw (apart, same_name receiver.id) refl

other_way : (sender receiver : Peer) → bytes_eq sender.id receiver.id ≡ false → bytes_eq receiver.id sender.id ≡ false
other_way sender receiver apart = not_true (bytes_eq receiver.id sender.id) (λ is. differ (rw ((bytes_eq-Decides receiver.id sender.id).0 is) at apart) (same_name sender.id)) where
  differ : {t : Bool} → t ≡ false → t ≡ true → ⊥
  differ off is = cc

-- the node that is written to loads nothing
own_takes : (from : List ℕ) (channel : ℕ) (mine : List Act) → Each IsOwn mine → (taken_of from channel mine ≡ []) × (loaded from channel mine ≡ 0)
own_takes from channel [] own = (refl, refl)
own_takes from channel (Wrote writer number rows ∷ mine) own = own_takes from channel mine own.1
own_takes from channel (Routed ∷ mine) own = own_takes from channel mine own.1
own_takes from channel (Loaded place c batch rows ∷ mine) own = absurd own.0
own_takes from channel (Acked peer acks ∷ mine) own = own_takes from channel mine own.1

skipped : (b c : Bool) (taken : List (ℕ × List LoadRow)) (more : ℕ × List LoadRow) (n : ℕ) → b ≡ false
    → ((if b && c then taken ++ more ∷ [] else taken) ≡ taken) × ((if b && c then n + 1 else n) ≡ n)
skipped true c taken more n off = absurd (cc)
skipped false c taken more n off = (refl, refl)

-- the node that loads has loaded nothing of another
loads_take : (from other : List ℕ) (channel : ℕ) (acts : List Act) → bytes_eq from other ≡ false → Each (IsLoadFrom from) acts → (taken_of other channel acts ≡ []) × (loaded other channel acts ≡ 0)
loads_take from other channel [] apart loads = (refl, refl)
loads_take from other channel (Wrote writer number rows ∷ acts) apart loads = absurd loads.0
loads_take from other channel (Routed ∷ acts) apart loads = absurd loads.0
loads_take from other channel (Loaded place c batch rows ∷ acts) apart loads =
    let skip : (taken_of other channel (Loaded place c batch rows ∷ acts) ≡ taken_of other channel acts) × (loaded other channel (Loaded place c batch rows ∷ acts) ≡ loaded other channel acts) =
    skipped (bytes_eq place other) (c == channel) (taken_of other channel acts) (batch, rows) (loaded other channel acts) (rw loads.0.0 apart) in
    let rest : (taken_of other channel acts ≡ []) × (loaded other channel acts ≡ 0) = loads_take from other channel acts apart loads.1 in
    (skip.0 ∙ rest.0, skip.1 ∙ rest.1)
loads_take from other channel (Acked peer acks ∷ acts) apart loads = absurd loads.0

no_batches : (me other : Peer) (from : List ℕ) (acts : List Act) → Each (IsLoadFrom from) acts → batches_of one (paired me other) acts ≡ []
no_batches me other from [] loads = refl
no_batches me other from (Wrote writer number rows ∷ acts) loads = absurd loads.0
no_batches me other from (Routed ∷ acts) loads = absurd loads.0
no_batches me other from (Loaded place c batch rows ∷ acts) loads = no_batches me other from acts loads.1
no_batches me other from (Acked peer acks ∷ acts) loads = absurd loads.0

none_to : (to name : List ℕ) (channel : ℕ) (batches : List OutBatch) → bytes_eq to name ≡ false → Each (GoesTo to) batches → filter (λ (b : OutBatch). bytes_eq b.peer name && b.channel == channel) batches ≡ []
none_to to name channel batches apart go =
    none_pass (λ (b : OutBatch). bytes_eq b.peer name && b.channel == channel) batches
    (each_weaker (GoesTo to) (λ (b : OutBatch). (bytes_eq b.peer name && b.channel == channel) ≡ false) (λ b g. rw g.0 (rw apart refl)) batches go)

-- a lane in which nothing was made and nothing was loaded
empty_lane : (sender receiver : History) (channel : ℕ) → taken_of sender.opening.me.id channel receiver.acts ≡ [] → loaded sender.opening.me.id channel receiver.acts ≡ 0
    → made (state_of one sender) receiver.opening.me.id channel ≡ [] → LaneInStep one sender receiver channel
empty_lane sender receiver channel taken none made_none = record {
  front = taken ∙ sym (rw none refl);
  known = rw made_none (omega arith);
  within = rw none (omega arith);
}

full_lane : (sender receiver : Peer) (mine acts : List Act) (messages : List Message) (replies : List Reply) (channel : ℕ) → Pair sender receiver mine acts messages replies
    → LaneInStep one (record { opening = paired sender receiver; acts = mine }) (record { opening = paired receiver sender; acts = acts }) channel
full_lane sender receiver mine acts messages replies channel pair = record {
  front = lane_front one (at one sender (others receiver) mine) (made (at one sender (others receiver) mine) receiver.id channel) (taken_of sender.id channel acts) (loaded sender.id channel acts) (pair.stands.lanes channel);
  known = lane_known one (at one sender (others receiver) mine) (made (at one sender (others receiver) mine) receiver.id channel) (taken_of sender.id channel acts) (loaded sender.id channel acts) (pair.stands.lanes channel);
  within = lane_within one (at one sender (others receiver) mine) (made (at one sender (others receiver) mine) receiver.id channel) (taken_of sender.id channel acts) (loaded sender.id channel acts) (pair.stands.lanes channel);
}

quiet : (writer from : List ℕ) (acts : List Act) → Each (IsLoadFrom from) acts → IsCountdown (numbers_of writer acts)
quiet writer from [] loads = tt
quiet writer from (Wrote name number rows ∷ acts) loads = absurd loads.0
quiet writer from (Routed ∷ acts) loads = absurd loads.0
quiet writer from (Loaded place c batch rows ∷ acts) loads = quiet writer from acts loads.1
quiet writer from (Acked peer acks ∷ acts) loads = absurd loads.0

own_from : (nodes : List History) (mine : List Act) → Each IsOwn mine → EachFromNode one nodes mine
own_from nodes [] own = tt
own_from nodes (Wrote writer number rows ∷ mine) own = own_from nodes mine own.1
own_from nodes (Routed ∷ mine) own = own_from nodes mine own.1
own_from nodes (Loaded place c batch rows ∷ mine) own = absurd own.0
own_from nodes (Acked peer acks ∷ mine) own = own_from nodes mine own.1

loads_from : (nodes : List History) (from : List ℕ) (acts : List Act) → is_some (history_of from nodes) ≡ true → Each (IsLoadFrom from) acts → EachFromNode one nodes acts
loads_from nodes from [] found loads = tt
loads_from nodes from (Wrote writer number rows ∷ acts) found loads = absurd loads.0
loads_from nodes from (Routed ∷ acts) found loads = absurd loads.0
loads_from nodes from (Loaded place c batch rows ∷ acts) found loads =
    (ap (λ (name : List ℕ). is_some (history_of name nodes)) loads.0.0 ∙ found, (rw loads.0.1 refl, loads_from nodes from acts found loads.1))
loads_from nodes from (Acked peer acks ∷ acts) found loads = absurd loads.0

message_in_step : (sender receiver : Peer) (mine acts : List Act) (messages : List Message) (replies : List Reply) → bytes_eq sender.id receiver.id ≡ false → (message : Message)
    → MessageKept one (at one sender (others receiver) mine) receiver.id sender.id acts message → MadeTo receiver message
    → MessageInStep one (pair_world sender receiver mine acts messages replies).nodes message
message_in_step sender receiver mine acts messages replies apart message kept made_to =
    let parts : All (PartInStep one (record { opening = paired sender receiver; acts = mine }) (record { opening = paired receiver sender; acts = acts })) message.parts =
    all_from_each (PartInStep one (record { opening = paired sender receiver; acts = mine }) (record { opening = paired receiver sender; acts = acts })) message.parts
    (each_weaker _ (PartInStep one (record { opening = paired sender receiver; acts = mine }) (record { opening = paired receiver sender; acts = acts }))
    (λ part lies. part_in_step one sender receiver mine acts messages replies part lies) message.parts kept.1) in
    let P : List ℕ → List ℕ → Type 0 = λ a b. IfSome (history_of a (pair_world sender receiver mine acts messages replies).nodes) (λ (s : History).
    IfSome (history_of b (pair_world sender receiver mine acts messages replies).nodes) (λ (r : History). All (PartInStep one s r) message.parts)) in
    let here : P sender.id receiver.id = rw (sender_found sender receiver mine acts messages replies) (rw (receiver_found sender receiver mine acts messages replies apart) parts) in
    subst (λ (a : List ℕ). P a message.receiver) (sym kept.0) (subst (λ (b : List ℕ). P sender.id b) (sym made_to) here)

reply_in_step : (sender receiver : Peer) (mine acts : List Act) (messages : List Message) (replies : List Reply) → bytes_eq sender.id receiver.id ≡ false → (reply : Reply)
    → ReplyKept sender.id acts reply → MadeBy sender receiver reply → ReplyInStep (pair_world sender receiver mine acts messages replies).nodes reply
reply_in_step sender receiver mine acts messages replies apart reply kept made_by =
    let P : List ℕ → List ℕ → Type 0 = λ a b. IfSome (history_of a (pair_world sender receiver mine acts messages replies).nodes) (λ (r : History).
    All (λ (ack : Ack). is_none ack.error ≡ true → is_taken b ack.batch r.acts ≡ true) reply.acks) in
    let here : P receiver.id sender.id = rw (receiver_found sender receiver mine acts messages replies apart) (all_from_each (AckTaken sender.id acts) reply.acks kept) in
    subst (λ (a : List ℕ). P a reply.sender) (sym made_by.0) (subst (λ (b : List ℕ). P receiver.id b) (sym made_by.1) here)

all_goes : (sender receiver : Peer) (mine : List Act) → Each (GoesTo receiver.id) (batches_of one (paired sender receiver) mine) → EachToPeer (others receiver) (batches_of one (paired sender receiver) mine)
all_goes sender receiver mine go =
    all_from_each (λ (b : OutBatch). list_any (λ (kept : KeptPeer). bytes_eq kept.peer.id b.peer) (others receiver) ≡ true) (batches_of one (paired sender receiver) mine)
    (each_weaker (GoesTo receiver.id) (λ (b : OutBatch). list_any (λ (kept : KeptPeer). bytes_eq kept.peer.id b.peer) (others receiver) ≡ true)
    (λ b g. rw g.0 (rw (same_name receiver.id) refl)) (batches_of one (paired sender receiver) mine) go)

each_two : {X : Type 0} (P : X → Type 0) (a b : X) → P a → P b → All P (a ∷ (b ∷ []))
each_two P a b first second = all_from_each P (a ∷ (b ∷ [])) (first, (second, tt))

pair_in_step : (sender receiver : Peer) (mine acts : List Act) (messages : List Message) (replies : List Reply) → bytes_eq sender.id receiver.id ≡ false → Pair sender receiver mine acts messages replies
    → InStep one (pair_world sender receiver mine acts messages replies)
pair_in_step sender receiver mine acts messages replies apart pair =
    let back : bytes_eq receiver.id sender.id ≡ false = other_way sender receiver apart in
    let none : batches_of one (paired receiver sender) acts ≡ [] = no_batches receiver sender sender.id acts pair.loads in
    record {
      writers = each_two WritersInOrder (record { opening = paired sender receiver; acts = mine }) (record { opening = paired receiver sender; acts = acts })
          (λ writer. (pair.writers writer).countdown) (λ writer. quiet writer sender.id acts pair.loads);
      lanes = each_two (λ (s : History). All (λ (r : History). (channel : ℕ) → LaneInStep one s r channel) (pair_world sender receiver mine acts messages replies).nodes)
          (record { opening = paired sender receiver; acts = mine }) (record { opening = paired receiver sender; acts = acts })
          (each_two (λ (r : History). (channel : ℕ) → LaneInStep one (record { opening = paired sender receiver; acts = mine }) r channel)
          (record { opening = paired sender receiver; acts = mine }) (record { opening = paired receiver sender; acts = acts })
          (λ channel. empty_lane (record { opening = paired sender receiver; acts = mine }) (record { opening = paired sender receiver; acts = mine }) channel
          (own_takes sender.id channel mine pair.own).0 (own_takes sender.id channel mine pair.own).1
          (none_to receiver.id sender.id channel (batches_of one (paired sender receiver) mine) back pair.goes_to))
          (λ channel. full_lane sender receiver mine acts messages replies channel pair))
          (each_two (λ (r : History). (channel : ℕ) → LaneInStep one (record { opening = paired receiver sender; acts = acts }) r channel)
          (record { opening = paired sender receiver; acts = mine }) (record { opening = paired receiver sender; acts = acts })
          (λ channel. empty_lane (record { opening = paired receiver sender; acts = acts }) (record { opening = paired sender receiver; acts = mine }) channel
          (own_takes receiver.id channel mine pair.own).0 (own_takes receiver.id channel mine pair.own).1 (nothing_made channel sender.id none))
          (λ channel. empty_lane (record { opening = paired receiver sender; acts = acts }) (record { opening = paired receiver sender; acts = acts }) channel
          (loads_take sender.id receiver.id channel acts apart pair.loads).0 (loads_take sender.id receiver.id channel acts apart pair.loads).1 (nothing_made channel receiver.id none)));
      from_nodes = each_two (λ (h : History). EachFromNode one (pair_world sender receiver mine acts messages replies).nodes h.acts)
          (record { opening = paired sender receiver; acts = mine }) (record { opening = paired receiver sender; acts = acts })
          (own_from (pair_world sender receiver mine acts messages replies).nodes mine pair.own)
          (loads_from (pair_world sender receiver mine acts messages replies).nodes sender.id acts (ap is_some (sender_found sender receiver mine acts messages replies)) pair.loads);
      messages = all_from_each (MessageInStep one (pair_world sender receiver mine acts messages replies).nodes) messages
          (both_messages messages pair.stands.lie pair.made_to);
      replies = all_from_each (ReplyInStep (pair_world sender receiver mine acts messages replies).nodes) replies (both_replies replies pair.stands.name pair.made_by);
      routed = each_two (RoutedOnce one) (record { opening = paired sender receiver; acts = mine }) (record { opening = paired receiver sender; acts = acts })
          (stays_once sender receiver mine) (stays_once receiver sender acts);
      to_peers = each_two (λ (h : History). EachToPeer h.opening.peers (batches_of one h.opening h.acts)) (record { opening = paired sender receiver; acts = mine }) (record { opening = paired receiver sender; acts = acts })
          (all_goes sender receiver mine pair.goes_to) (subst (λ (l : List OutBatch). EachToPeer (others sender) l) (sym none) (all_from_each _ [] tt));
    } where
      nothing_made : (channel : ℕ) (name : List ℕ) → batches_of one (paired receiver sender) acts ≡ [] → made (state_of one (record { opening = paired receiver sender; acts = acts })) name channel ≡ []
      nothing_made channel name none = ap (λ (l : List OutBatch). filter (λ (b : OutBatch). bytes_eq b.peer name && b.channel == channel) l) none

      both_messages : (some : List Message) → Each (MessageKept one (at one sender (others receiver) mine) receiver.id sender.id acts) some → Each (MadeTo receiver) some
          → Each (MessageInStep one (pair_world sender receiver mine acts messages replies).nodes) some
      both_messages [] kept made_to = tt
      both_messages (m ∷ some) kept made_to = (message_in_step sender receiver mine acts messages replies apart m kept.0 made_to.0, both_messages some kept.1 made_to.1)

      both_replies : (some : List Reply) → Each (ReplyKept sender.id acts) some → Each (MadeBy sender receiver) some → Each (ReplyInStep (pair_world sender receiver mine acts messages replies).nodes) some
      both_replies [] kept made_by = tt
      both_replies (r ∷ some) kept made_by = (reply_in_step sender receiver mine acts messages replies apart r kept.0 made_by.0, both_replies some kept.1 made_by.1)

pub stay_in_step : PairsStayInStep
stay_in_step sender receiver events apart may =
    let n : Next sender receiver (world_after one (pair_world sender receiver [] [] [] []) events) = always sender receiver apart events may [] [] [] [] (pair_first sender receiver) in
    record {
      mine = n.mine;
      acts = n.acts;
      messages = n.messages;
      replies = n.replies;
      is = n.is;
      in_step = subst (λ (w : World). InStep one w) (sym n.is) (pair_in_step sender receiver n.mine n.acts n.messages n.replies apart n.pair);
      goes = goes_by_calls sender receiver n.mine n.acts n.messages n.replies n.pair;
    }
