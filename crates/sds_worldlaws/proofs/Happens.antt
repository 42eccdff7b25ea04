-- The facts of a world stay by each event.
use Rattle.std.proofs.Common.{◌≡◌, ◌≢◌, ℕ, zero, suc, ◌+◌, ◌-◌, ◌<◌, ◌≤◌, Bool, true, false, cond, List, [], ◌∷◌, ◌++◌, length, map, Option, None, Some, Result, Ok, Err, refl, sym, ap, subst, ◌∙◌, arith, true≢false, filter, ◌==◌, All, not}
use Rattle.std.specs.List.{enumerate_from, position, prefix_len, range_with_len}
use Rattle.std.specs.Option.{option_map_or}
use Rattle.std.specs.Prelude.{is_some, nat_lt}
use Rattle.std.proofs.lemmas.List.Elements.{All-nil, All-cons, All-append}
use Rattle.sds_value.specs.declared.row.Peer.{Peer}
use Rattle.sds_types.specs.declared.ack.Ack.{Ack}
use Rattle.sds_types.specs.declared.ack.AckRefusal.TheVariants.{UnknownNode}
use Rattle.sds_types.specs.declared.batch.OutBatch.{OutBatch}
use Rattle.sds_types.specs.declared.channel.ChannelDef.{ChannelDef}
use Rattle.sds_types.specs.declared.config.Config.{Config}
use Rattle.sds_types.specs.declared.message.Message.{Message}
use Rattle.sds_types.specs.declared.message.Reply.{Reply}
use Rattle.sds_types.specs.declared.node_fault.NodeFault.{NodeFault}
use Rattle.sds_types.specs.declared.peer.KeptPeer.{KeptPeer}
use Rattle.sds_types.specs.declared.registration.RegRefusal.{RegRefusal}
use Rattle.sds_types.specs.declared.sync.SyncRefusal.{SyncRefusal}
use Rattle.sds_types.specs.declared.sync.SyncRefusal.TheVariants.{NoWay}
use Rattle.sds_types.specs.declared.tx_row.TxRow.{TxRow}
use Rattle.sds_types.specs.declared.world_event.WorldEvent.{WorldEvent}
use Rattle.sds_types.specs.declared.world_event.WorldEvent.TheVariants as event
use Rattle.sds_trade.proofs.Lists.{all_head, all_tail}
use Rattle.sds_trade.specs.rules.Batches.{channels_in_order}
use Rattle.sds_trade.specs.rules.Sound.{IsSound}
use Rattle.sds_history.specs.history.Acts.{Act, State}
use Rattle.sds_history.specs.history.Links.{has_pull, has_push, has_way}
use Rattle.sds_history.specs.history.Messages.{batches_in_parts, count_through, ends_part, is_wanted, lane_waiting, message_channels, part_of, parts_of}
use Rattle.sds_history.specs.history.Peers.{kept_peer}
use Rattle.sds_history.specs.history.Standings.{is_acked}
use Rattle.sds_history.specs.world.Answering.{answered_at, answered_reply, confirmed, take_at}
use Rattle.sds_history.specs.world.Calling.{after_call}
use Rattle.sds_history.specs.world.DeliverOrder.{deliver_order, is_in_part}
use Rattle.sds_history.specs.world.Delivering.{confirm_at, delivered, delivered_at, delivered_between, delivery_of, replied}
use Rattle.sds_history.specs.world.Delivery.{Delivery, acks_in_order, delivered_batches}
use Rattle.sds_history.specs.world.Events.{happened, routed, with_fault, written}
use Rattle.sds_history.specs.world.Exchanging.{exchanged, exchanged_if, may_exchange, next_step, pulled, pushed}
use Rattle.sds_history.specs.world.Happened.{Happened, Told, quiet, tells}
use Rattle.sds_history.specs.world.Happened.Told.{Opening, Registering, Writing, Routing, Sending, Delivering, Answering, NoPush, NoPull, Bytes, Tables, Batches, Crashed}
use Rattle.sds_history.specs.world.Registering.{after_register, join_in, opened_at, register_at, registered}
use Rattle.sds_history.specs.world.Sending.{may_send, may_take, sent, sent_parts, with_message}
use Rattle.sds_history.specs.world.Worlds.{Node, World, empty_world, me_of, message_of, node_at, reply_of, state_in, with_node}
use Rattle.sds_nodelaws.specs.Calls.{act_of}
use Rattle.sds_nodelaws.specs.Calls.Call.{Write, Route, TakeAcks, Open, Register, Join, Confirm}
use Rattle.sds_nodelaws.proofs.Channels.{At, sorted_all}
use Rattle.sds_nodelaws.proofs.Held.{mapped}
use Rattle.sds_worldlaws.specs.Nodes.{world_after}
use Rattle.sds_worldlaws.specs.Stepping.{AreNew, IsNew}
use Rattle.sds_worldlaws.proofs.CallSteps.{acks_ask, call_steps, confirm_asks, join_asks, me_stays, open_asks, reached_at, register_asks, route_asks, write_asks}
use Rattle.sds_worldlaws.proofs.Deliveries.{Course, Going, acks_all, going_all, put_twice, receiver_there, sender_there}
use Rattle.sds_worldlaws.proofs.LaneFacts.{AckOk, AckedOk, LaneFacts, ids_ascend, kept_of, made, upto}
use Rattle.sds_nodelaws.proofs.Lists.{filter_all, from_lt, is_le, map_all, no_some, same_some, slice_all}
use Rattle.sds_worldlaws.proofs.Ready.{Ready, order_range, order_ready}
use Rattle.sds_worldlaws.proofs.Reached.{Reached}
use Rattle.sds_worldlaws.proofs.WorldFacts.{MessageOk, PartOk, ReplyOk, WorldFacts, at_other, at_same, id_of_found}
use Rattle.sds_worldlaws.proofs.WorldNodes.{faults_change, node_comes}

abbrev Keeps : Config → Happened → Type 0
Keeps config happening = WorldFacts config happening.world

-- PLAIN EVENTS
written_on : (config : Config) (world : World) (id writer : List ℕ) (number : ℕ) (rows : List TxRow) (found : Option Node) → IsSound config
    → WorldFacts config world → node_at world id ≡ found → Keeps config (written config world id writer number rows found)
written_on config world id writer number rows None sound facts is = facts
written_on config world id writer number rows (Some node) sound facts is =
    call_steps config world id node (Write writer number rows) sound facts is (write_asks config world id node writer number rows)

routed_on : (config : Config) (world : World) (id : List ℕ) (found : Option Node) → IsSound config → WorldFacts config world → node_at world id ≡ found
    → Keeps config (routed config world id found)
routed_on config world id None sound facts is = facts
routed_on config world id (Some node) sound facts is = call_steps config world id node Route sound facts is (route_asks config world id node)

armed_on : (config : Config) (world : World) (id : List ℕ) (stands : Bool) (found : Option Node) → WorldFacts config world → node_at world id ≡ found
    → Keeps config (with_fault world stands found)
armed_on config world id stands None facts is = facts
armed_on config world id stands (Some node) facts is = faults_change config world id node (node.faults ++ stands ∷ []) facts is (reached_at config world id node facts is)

opened_on : (config : Config) (noise : List ℕ) (world : World) (at group external : List ℕ) (found : Option Node) → IsSound config → WorldFacts config world
    → node_at world at ≡ found → Keeps config (opened_at config noise world at group external found)
opened_on config noise world at group external None sound facts is = facts
opened_on config noise world at group external (Some node) sound facts is =
    call_steps config world at node (Open group external noise) sound facts is (open_asks config world at node group external noise)

-- REGISTRATIONS
joined_on : (config : Config) (world : World) (asks at : List ℕ) (other : Node) (token : List ℕ) (found : Option Node) → IsSound config → WorldFacts config world
    → node_at world (me_of other).id ≡ Some other → node_at world asks ≡ found → Keeps config (join_in config world asks other token found)
joined_on config world asks at other token None sound facts there is = facts
joined_on config world asks at other token (Some node) sound facts there is =
    call_steps config world asks node (Join (me_of other) token) sound facts is (join_asks config world asks node other (me_of other) token there)

after_on : (config : Config) (world : World) (asks at : List ℕ) (node : Node) (told : Result (List ℕ) RegRefusal) → IsSound config → WorldFacts config world
    → node_at world (me_of node).id ≡ Some node → Keeps config (after_register config world asks at node told)
after_on config world asks at node (Err refusal) sound facts there = facts
after_on config world asks at node (Ok token) sound facts there = joined_on config world asks at node token (node_at world asks) sound facts there refl

registered_on : (config : Config) (world : World) (asks at : List ℕ) (child found : Option Node) → IsSound config → WorldFacts config world
    → node_at world asks ≡ child → node_at world at ≡ found → Keeps config (registered config world asks at child found)
registered_on config world asks at None None sound facts is_child is = facts
registered_on config world asks at None (Some node) sound facts is_child is = facts
registered_on config world asks at (Some child) None sound facts is_child is = facts
registered_on config world asks at (Some child) (Some node) sound facts is_child is =
    let called : Node = (register_at config node child).node in
    let me : (me_of called).id ≡ at = ap (λ (p : Peer). p.id) (me_stays node (act_of config (state_in config node) (Register (me_of child)))) ∙ id_of_found world at node is in
    after_on config (with_node world called) asks at called (register_at config node child).answer sound
    (call_steps config world at node (Register (me_of child)) sound facts is
    (register_asks config world at node child (me_of child) (ap (node_at world) (id_of_found world asks child is_child) ∙ is_child)))
    (ap (node_at (with_node world called)) me ∙ at_same world at node called is me)

-- MESSAGES. What is acknowledged is loaded, and what is offered was made
pub fewer : {X : Type 0} (p q : X → Bool) (xs : List X) → All (λ x. p x ≡ true → q x ≡ true) xs → length (filter p xs) ≤ length (filter q xs)
fewer p q [] are = omega arith
fewer p q (x ∷ xs) are = on (p x) (q x) refl refl (all_head (λ y. p y ≡ true → q y ≡ true) x xs are) (fewer p q xs (all_tail (λ y. p y ≡ true → q y ≡ true) x xs are))
  where
    on : (a b : Bool) → p x ≡ a → q x ≡ b → (p x ≡ true → q x ≡ true) → length (filter p xs) ≤ length (filter q xs)
        → length (cond a (x ∷ filter p xs) (filter p xs)) ≤ length (cond b (x ∷ filter q xs) (filter q xs))
    on true true first second then rest = omega (arith, rest)
    on true false first second then rest = absurd (true≢false (sym (then first) ∙ second))
    on false true first second then rest = omega (arith, rest)
    on false false first second then rest = rest

parted : {X : Type 0} (p : X → Bool) (xs : List X) → length (filter p xs) + length (filter (λ x. not (p x)) xs) ≡ length xs
parted p [] = refl
parted p (x ∷ xs) = on (p x) (parted p xs)
  where
    on : (b : Bool) → length (filter p xs) + length (filter (λ y. not (p y)) xs) ≡ length xs
        → length (cond b (x ∷ filter p xs) (filter p xs)) + length (cond (not b) (x ∷ filter (λ y. not (p y)) xs) (filter (λ y. not (p y)) xs)) ≡ suc (length xs)
    on true same = omega (arith, same)
    on false same = omega (arith, same)

prefix_most : {X : Type 0} (p : X → Bool) (xs : List X) → prefix_len p xs ≤ length xs
prefix_most p [] = omega arith
prefix_most p (x ∷ xs) = on (p x) (prefix_most p xs)
  where
    on : (b : Bool) → prefix_len p xs ≤ length xs → cond b (1 + prefix_len p xs) 0 ≤ suc (length xs)
    on true rest = omega (arith, rest)
    on false rest = omega arith

range_length : (a n : ℕ) → length (range_with_len a n) ≡ n
range_length a zero = refl
range_length a (suc n) = ap suc (range_length (a + 1) n)

through_most : (ends : ℕ → Bool) (batches : List OutBatch) → count_through ends batches ≤ length batches
through_most ends batches = bounded (range_with_len 0 (length batches)) (range_length 0 (length batches))
  where
    on : (n place : ℕ) (b : Bool) → nat_lt place n ≡ b → option_map_or (λ (p : ℕ). p + 1) (cond b (Some place) None) n ≤ n
    on n place true is = let less : place < n = from_lt place n is in omega (arith, less)
    on n place false is = omega arith

    bounded : (places : List ℕ) → length places ≡ length batches → option_map_or (λ (p : ℕ). p + 1) (position ends places) (length batches) ≤ length batches
    bounded places same =
        subst (λ n. option_map_or (λ (p : ℕ). p + 1) (cond (nat_lt (prefix_len (λ x. not (ends x)) places) n) (Some (prefix_len (λ x. not (ends x)) places)) None) (length batches) ≤ length batches)
        (sym same) (on (length batches) (prefix_len (λ x. not (ends x)) places) (nat_lt (prefix_len (λ x. not (ends x)) places) (length batches)) refl)

pub places_within : (first : ℕ) (defs : List ChannelDef) → All (λ (at : At). at.0 < first + length defs) (enumerate_from first defs)
places_within first [] = All-nil (λ (at : At). at.0 < first + 0)
places_within first (def ∷ defs) =
    All-cons (λ (at : At). at.0 < first + suc (length defs)) (first, def) (enumerate_from (first + 1) defs) (here first (length defs))
    (mapped (λ (at : At). at.0 < (first + 1) + length defs) (λ (at : At). at.0 < first + suc (length defs)) (enumerate_from (first + 1) defs)
    (λ at less. later first (length defs) at.0 less) (places_within (first + 1) defs))
  where
    here : (b m : ℕ) → b < b + suc m
    here b m = omega arith

    later : (b m k : ℕ) → k < (b + 1) + m → k < b + suc m
    later b m k less = omega (arith, less)

wanted_within : (config : Config) (channels : List ℕ) → All (λ (at : At). at.0 < length config.channels) (message_channels config channels)
wanted_within config channels =
    filter_all (λ (at : At). at.0 < length config.channels) (is_wanted channels) (channels_in_order config)
    (sorted_all (λ (at : At). at.0 < length config.channels) (enumerate_from 0 config.channels)
    (subst (λ n. All (λ (at : At). at.0 < n) (enumerate_from 0 config.channels)) (no_first (length config.channels)) (places_within 0 config.channels)))
  where
    no_first : (n : ℕ) → 0 + n ≡ n
    no_first n = omega arith

part_ok : (config : Config) (world : World) (a b : List ℕ) (from to : Node) (at : At) → WorldFacts config world → node_at world a ≡ Some from → node_at world b ≡ Some to
    → a ≢ b → at.0 < length config.channels → PartOk config (state_in config from) (state_in config to) (part_of config (state_in config from) b at)
part_ok config world a b from to at facts is_from is_to apart within =
    let lane : LaneFacts config (state_in config from) (state_in config to) to.history.acts at.0 = facts.lanes a b from to at.0 is_from is_to apart within in
    let me : (me_of to).id ≡ b = id_of_found world b to is_to in
    subst (λ i. PartOk config (state_in config from) (state_in config to) (part_of config (state_in config from) i at)) me (record {
      within = within;
      whole = whole (length (filter (λ (x : OutBatch). is_acked x.standing) (made (state_in config from) (state_in config to) at.0)))
          (length (lane_waiting (state_in config from) (me_of to).id at.0))
          (count_through (ends_part config (state_in config from) at.1.max_batch_to_send (lane_waiting (state_in config from) (me_of to).id at.0))
          (lane_waiting (state_in config from) (me_of to).id at.0))
          (length (made (state_in config from) (state_in config to) at.0))
          (parted (λ (x : OutBatch). is_acked x.standing) (made (state_in config from) (state_in config to) at.0))
          (through_most (ends_part config (state_in config from) at.1.max_batch_to_send (lane_waiting (state_in config from) (me_of to).id at.0))
          (lane_waiting (state_in config from) (me_of to).id at.0));
      start = fewer (λ (x : OutBatch). is_acked x.standing) (upto (kept_of (state_in config from) (state_in config to) at.0).highest) (made (state_in config from) (state_in config to) at.0)
          (mapped (AckedOk (kept_of (state_in config from) (state_in config to) at.0).highest)
          (λ (x : OutBatch). is_acked x.standing ≡ true → upto (kept_of (state_in config from) (state_in config to) at.0).highest x ≡ true)
          (made (state_in config from) (state_in config to) at.0)
          (λ x ok acked. is_le x.id (kept_of (state_in config from) (state_in config to) at.0).highest (ok acked)) lane.acked);
    })
  where
    whole : (n w c l : ℕ) → n + w ≡ l → c ≤ w → n + c ≤ l
    whole n w c l same less = omega (arith, same, less)

-- a message or a reply more
message_same : (config : Config) (world now : World) (message : Message) → ((id : List ℕ) → node_at now id ≡ node_at world id) → MessageOk config world message → MessageOk config now message
message_same config world now message same ok = record {
  from = ok.from;
  to = ok.to;
  is_from = same message.from ∙ ok.is_from;
  is_to = same message.to ∙ ok.is_to;
  apart = ok.apart;
  parts = ok.parts;
}

reply_same : (config : Config) (world now : World) (reply : Reply) → ((id : List ℕ) → node_at now id ≡ node_at world id) → ReplyOk config world reply → ReplyOk config now reply
reply_same config world now reply same ok = record {
  sender = ok.sender;
  receiver = ok.receiver;
  is_sender = same reply.to ∙ ok.is_sender;
  is_receiver = same reply.from ∙ ok.is_receiver;
  apart = ok.apart;
  acks = ok.acks;
}

more_said : (config : Config) (world : World) (messages : List Message) (replies : List Reply) → WorldFacts config world
    → All (MessageOk config world) messages → All (ReplyOk config world) replies
    → WorldFacts config (record { nodes = world.nodes; messages = messages; replies = replies })
more_said config world messages replies facts are answers =
    let now : World = record { nodes = world.nodes; messages = messages; replies = replies } in
    record {
      reached = facts.reached;
      found = facts.found;
      nodes = facts.nodes;
      known = facts.known;
      lanes = facts.lanes;
      messages = mapped (MessageOk config world) (MessageOk config now) messages (λ message ok. message_same config world now message (λ id. refl) ok) are;
      replies = mapped (ReplyOk config world) (ReplyOk config now) replies (λ reply ok. reply_same config world now reply (λ id. refl) ok) answers;
    }

kept_is : (state : State) (to : List ℕ) (test : KeptPeer → Bool) → option_map_or test (kept_peer state.peers to) false ≡ true → is_some (kept_peer state.peers to) ≡ true
kept_is state to test is = on (kept_peer state.peers to) is
  where
    on : (found : Option KeptPeer) → option_map_or test found false ≡ true → is_some found ≡ true
    on None told = told
    on (Some p) told = refl

sent_on : (config : Config) (world : World) (from to : List ℕ) (channels : List ℕ) (node : Node) (b : Bool) → may_send config (state_in config node) to ≡ b
    → WorldFacts config world → node_at world from ≡ Some node
    → Keeps config (cond b (sent_parts world from to (parts_of config (state_in config node) to channels)) (tells world (Sending from to (Err NoWay))))
sent_on config world from to channels node false may facts is = facts
sent_on config world from to channels node true may facts is = on (node_at world to) refl
  where
    kept : is_some (kept_peer (state_in config node).peers to) ≡ true
    kept = kept_is (state_in config node) to (λ (k : KeptPeer). has_way config (state_in config node).me.group k.peer.group) may

    apart : from ≢ to
    apart same =
        true≢false (sym kept ∙ (ap (λ i. is_some (kept_peer (state_in config node).peers i)) (sym same ∙ sym (id_of_found world from node is))
        ∙ ap is_some (facts.nodes from node is).own))

    on : (found : Option Node) → node_at world to ≡ found
        → WorldFacts config (with_message world from to (parts_of config (state_in config node) to channels))
    on None there = absurd (true≢false (sym (facts.known from to node is kept) ∙ ap is_some there))
    on (Some other) there =
        more_said config world (world.messages ++ record { from = from; to = to; parts = parts_of config (state_in config node) to channels } ∷ []) world.replies facts
        (All-append (MessageOk config world) world.messages (record { from = from; to = to; parts = parts_of config (state_in config node) to channels } ∷ []) facts.messages
        (All-cons (MessageOk config world) (record { from = from; to = to; parts = parts_of config (state_in config node) to channels }) [] (record {
          from = node;
          to = other;
          is_from = is;
          is_to = there;
          apart = apart;
          parts = map_all (PartOk config (state_in config node) (state_in config other)) (part_of config (state_in config node) to) (message_channels config channels)
              (mapped (λ (at : At). at.0 < length config.channels) (λ (at : At). PartOk config (state_in config node) (state_in config other) (part_of config (state_in config node) to at))
              (message_channels config channels) (λ at within. part_ok config world from to node other at facts is there apart within) (wanted_within config channels));
        }) (All-nil (MessageOk config world)))) facts.replies

sent_by : (config : Config) (world : World) (from to : List ℕ) (channels : List ℕ) (found : Option Node) → WorldFacts config world → node_at world from ≡ found
    → Keeps config (sent config world from to channels found)
sent_by config world from to channels None facts is = facts
sent_by config world from to channels (Some node) facts is =
    sent_on config world from to channels node (may_send config (state_in config node) to) refl facts is

-- DELIVERIES
replied_on : (config : Config) (world : World) (message : Message) (number : ℕ) (acks : List Ack) (refusal : Option SyncRefusal) → WorldFacts config world
    → ReplyOk config world (record { from = message.to; to = message.from; acks = acks }) → Keeps config (replied world message number acks refusal)
replied_on config world message number acks (Some refusal) facts ok = facts
replied_on config world message number acks None facts ok =
    more_said config world world.messages (world.replies ++ record { from = message.to; to = message.from; acks = acks } ∷ []) facts facts.messages
    (All-append (ReplyOk config world) world.replies (record { from = message.to; to = message.from; acks = acks } ∷ []) facts.replies
    (All-cons (ReplyOk config world) (record { from = message.to; to = message.from; acks = acks }) [] ok (All-nil (ReplyOk config world))))

abbrev course_of : (config : Config) (world : World) (message : Message) (sender node : Node) → IsSound config → message.from ≢ message.to
    → node_at world message.from ≡ Some sender → node_at world message.to ≡ Some node → Course config world message.from message.to
course_of config world message sender node sound apart is_sender is_node = record {
  sound = sound;
  apart = apart;
  sender = sender;
  is_sender = is_sender;
  node = node;
  is_node = is_node;
}

-- what is on its way when the receiver has confirmed the sender
starts : (config : Config) (world : World) (number : ℕ) (message : Message) (channels : List ℕ) (sender node : Node) (sound : IsSound config) → WorldFacts config world
    → message_of world number ≡ Some message → (apart : message.from ≢ message.to)
    → (is_sender : node_at world message.from ≡ Some sender) → (is_node : node_at world message.to ≡ Some node)
    → Going config world message.from message.to (course_of config world message sender node sound apart is_sender is_node)
    (delivery_of (confirm_at config node message.from))
    (deliver_order channels (enumerate_from 0 (batches_in_parts (state_in config sender) message.to message.parts)))
starts config world number message channels sender node sound facts is_message apart is_sender is_node =
    let called : Node = (confirm_at config node message.from).node in
    let after : WorldFacts config (with_node world called) =
    call_steps config world message.to node (Confirm message.from) sound facts is_node (confirm_asks config world message.to node message.from) in
    let me : (me_of called).id ≡ message.to =
    ap (λ (p : Peer). p.id) (me_stays node (act_of config (state_in config node) (Confirm message.from))) ∙ id_of_found world message.to node is_node in
    let there : node_at (with_node world called) message.to ≡ Some called = at_same world message.to node called is_node me in
    let from_there : node_at (with_node world called) message.from ≡ Some sender =
    at_other world message.to message.from called me (λ same. apart (sym same)) ∙ is_sender in
    let ok : MessageOk config (with_node world called) message =
    slice_all (MessageOk config (with_node world called)) world.messages (number - 1) message after.messages is_message in
    let parts : All (PartOk config (state_in config sender) (state_in config called)) message.parts =
    subst (λ (n : Node). All (PartOk config (state_in config n) (state_in config called)) message.parts) (same_some ok.from sender (sym ok.is_from ∙ from_there))
    (subst (λ (n : Node). All (PartOk config (state_in config ok.from) (state_in config n)) message.parts) (same_some ok.to called (sym ok.is_to ∙ there)) ok.parts) in
    record {
      me = me;
      facts = after;
      ready = λ none c unheld. subst (λ i. Ready (kept_of (state_in config sender) (state_in config called) c).highest (made (state_in config sender) (state_in config called) c)
          (map (λ (at : ℕ × OutBatch). at.1) (filter (is_in_part c) (deliver_order channels (enumerate_from 0 (batches_in_parts (state_in config sender) i message.parts)))))) me
          (order_ready config (state_in config sender) (state_in config called) c channels message.parts
          (ids_ascend config (state_in config sender) sender.history.acts (facts.nodes message.from sender is_sender)) parts);
      acks = All-nil (λ (at : ℕ × Ack). AckOk config (state_in config sender) (state_in config called) at.1);
      range = subst (λ i. All (λ (at : ℕ × OutBatch). at.1.channel < length config.channels)
          (deliver_order channels (enumerate_from 0 (batches_in_parts (state_in config sender) i message.parts)))) me
          (order_range config (state_in config sender) (state_in config called) channels message.parts parts);
    }

delivered_on : (config : Config) (world : World) (number : ℕ) (message : Message) (channels : List ℕ) (sender node : Node) → IsSound config → WorldFacts config world
    → message_of world number ≡ Some message → message.from ≢ message.to → node_at world message.from ≡ Some sender → node_at world message.to ≡ Some node
    → Keeps config (delivered_at config world number message channels (state_in config sender) node)
delivered_on config world number message channels sender node sound facts is_message apart is_sender is_node =
    let batches : List (ℕ × OutBatch) = enumerate_from 0 (batches_in_parts (state_in config sender) message.to message.parts) in
    let course : Course config world message.from message.to = course_of config world message sender node sound apart is_sender is_node in
    let delivery : Delivery = delivered_batches config (state_in config sender) (delivery_of (confirm_at config node message.from)) (deliver_order channels batches) in
    let going : Going config world message.from message.to course delivery [] =
    going_all config world message.from message.to course (delivery_of (confirm_at config node message.from)) (deliver_order channels batches)
    (starts config world number message channels sender node sound facts is_message apart is_sender is_node) in
    replied_on config (with_node world delivery.node) message number (acks_in_order batches delivery.acks) delivery.refusal going.facts (record {
      sender = sender;
      receiver = delivery.node;
      is_sender = sender_there config world message.from message.to course delivery.node going.me;
      is_receiver = receiver_there config world message.from message.to course delivery.node going.me;
      apart = apart;
      acks = acks_all (AckOk config (state_in config sender) (state_in config delivery.node)) batches delivery.acks going.acks;
    })

taken_on : (config : Config) (world : World) (number : ℕ) (message : Message) (channels : List ℕ) (sender node : Node) (b : Bool) → IsSound config → WorldFacts config world
    → message_of world number ≡ Some message → message.from ≢ message.to → node_at world message.from ≡ Some sender → node_at world message.to ≡ Some node
    → Keeps config (cond b (delivered_at config world number message channels (state_in config sender) node) (tells world (Delivering number (Err NoWay))))
taken_on config world number message channels sender node true sound facts is_message apart is_sender is_node =
    delivered_on config world number message channels sender node sound facts is_message apart is_sender is_node
taken_on config world number message channels sender node false sound facts is_message apart is_sender is_node = facts

between_on : (config : Config) (world : World) (number : ℕ) (message : Message) (channels : List ℕ) (sender found : Option Node) → IsSound config → WorldFacts config world
    → message_of world number ≡ Some message → message.from ≢ message.to → node_at world message.from ≡ sender → node_at world message.to ≡ found
    → Keeps config (delivered_between config world number message channels sender found)
between_on config world number message channels None None sound facts is_message apart is_sender is = facts
between_on config world number message channels None (Some node) sound facts is_message apart is_sender is = facts
between_on config world number message channels (Some sender) None sound facts is_message apart is_sender is = facts
between_on config world number message channels (Some sender) (Some node) sound facts is_message apart is_sender is =
    taken_on config world number message channels sender node (may_take config (state_in config node) message.from) sound facts is_message apart is_sender is

deliver_on : (config : Config) (world : World) (number : ℕ) (channels : List ℕ) (found : Option Message) → IsSound config → WorldFacts config world
    → message_of world number ≡ found → Keeps config (delivered config world number channels found)
deliver_on config world number channels None sound facts is = facts
deliver_on config world number channels (Some message) sound facts is =
    between_on config world number message channels (node_at world message.from) (node_at world message.to) sound facts is
    (slice_all (MessageOk config world) world.messages (number - 1) message facts.messages is).apart refl refl

-- REPLIES. The acks that are taken are those of what is loaded
acks_on : (config : Config) (world : World) (number : ℕ) (reply : Reply) (node : Node) → IsSound config → WorldFacts config world
    → reply_of world number ≡ Some reply → node_at world reply.to ≡ Some node
    → WorldFacts config (with_node world (take_at config (confirm_at config node reply.from).node reply).node)
acks_on config world number reply node sound facts is_reply is =
    let called : Node = (confirm_at config node reply.from).node in
    let after : WorldFacts config (with_node world called) =
    call_steps config world reply.to node (Confirm reply.from) sound facts is (confirm_asks config world reply.to node reply.from) in
    let me : (me_of called).id ≡ reply.to =
    ap (λ (p : Peer). p.id) (me_stays node (act_of config (state_in config node) (Confirm reply.from))) ∙ id_of_found world reply.to node is in
    let there : node_at (with_node world called) reply.to ≡ Some called = at_same world reply.to node called is me in
    let ok : ReplyOk config (with_node world called) reply =
    slice_all (ReplyOk config (with_node world called)) world.replies (number - 1) reply after.replies is_reply in
    let act : Option Act = act_of config (state_in config called) (TakeAcks reply.from reply.acks) in
    subst (WorldFacts config) (put_twice world called (after_call called act) (ap (λ (p : Peer). p.id) (sym (me_stays called act))))
    (call_steps config (with_node world called) reply.to called (TakeAcks reply.from reply.acks) sound after there
    (acks_ask config (with_node world called) reply.to called reply.from reply.acks
    (λ receiver is_receiver. subst (λ (n : Node). All (AckOk config (state_in config n) (state_in config receiver)) reply.acks) (same_some ok.sender called (sym ok.is_sender ∙ there))
    (subst (λ (n : Node). All (AckOk config (state_in config ok.sender) (state_in config n)) reply.acks) (same_some ok.receiver receiver (sym ok.is_receiver ∙ is_receiver)) ok.acks))))

confirmed_on : (config : Config) (world : World) (number : ℕ) (reply : Reply) (node : Node) (told : Result (Unit {0}) NodeFault) → IsSound config → WorldFacts config world
    → reply_of world number ≡ Some reply → node_at world reply.to ≡ Some node
    → Keeps config (confirmed config world number reply (confirm_at config node reply.from) told)
confirmed_on config world number reply node (Ok done) sound facts is_reply is = acks_on config world number reply node sound facts is_reply is
confirmed_on config world number reply node (Err fault) sound facts is_reply is =
    call_steps config world reply.to node (Confirm reply.from) sound facts is (confirm_asks config world reply.to node reply.from)

may_on : (config : Config) (world : World) (number : ℕ) (reply : Reply) (node : Node) (b : Bool) → IsSound config → WorldFacts config world
    → reply_of world number ≡ Some reply → node_at world reply.to ≡ Some node
    → Keeps config (cond b (confirmed config world number reply (confirm_at config node reply.from) (confirm_at config node reply.from).answer)
    (tells world (Answering number (Err UnknownNode))))
may_on config world number reply node true sound facts is_reply is =
    confirmed_on config world number reply node (confirm_at config node reply.from).answer sound facts is_reply is
may_on config world number reply node false sound facts is_reply is = facts

answered_on : (config : Config) (world : World) (number : ℕ) (reply : Reply) (found : Option Node) → IsSound config → WorldFacts config world
    → reply_of world number ≡ Some reply → node_at world reply.to ≡ found → Keeps config (answered_at config world number reply found)
answered_on config world number reply None sound facts is_reply is = facts
answered_on config world number reply (Some node) sound facts is_reply is =
    may_on config world number reply node (may_send config (state_in config node) reply.from) sound facts is_reply is

reply_on : (config : Config) (world : World) (number : ℕ) (found : Option Reply) → IsSound config → WorldFacts config world → reply_of world number ≡ found
    → Keeps config (answered_reply config world number found)
reply_on config world number None sound facts is = facts
reply_on config world number (Some reply) sound facts is = answered_on config world number reply (node_at world reply.to) sound facts is refl

-- EXCHANGES
few_on : (config : Config) (world : World) (number : ℕ) (b : Bool) → IsSound config → WorldFacts config world
    → Keeps config (cond b (quiet world) (delivered config world number [] (message_of world number)))
few_on config world number true sound facts = facts
few_on config world number false sound facts = deliver_on config world number [] (message_of world number) sound facts refl

next_one : (config : Config) (world : World) (told : Told) → IsSound config → WorldFacts config world → Keeps config (next_step config world (told ∷ []))
next_one config world (Sending from to (Ok message)) sound facts = few_on config world message.0 (message.1 == 0) sound facts
next_one config world (Sending from to (Err refusal)) sound facts = facts
next_one config world (Delivering number (Ok reply)) sound facts = reply_on config world reply.0 (reply_of world reply.0) sound facts refl
next_one config world (Delivering number (Err refusal)) sound facts = facts
next_one config world (Opening at group external told) sound facts = facts
next_one config world (Registering asks at told) sound facts = facts
next_one config world (Writing node writer number told) sound facts = facts
next_one config world (Routing node told) sound facts = facts
next_one config world (Answering reply told) sound facts = facts
next_one config world (NoPush from to) sound facts = facts
next_one config world (NoPull to from) sound facts = facts
next_one config world (Bytes message) sound facts = facts
next_one config world (Tables node) sound facts = facts
next_one config world (Batches node) sound facts = facts
next_one config world (Crashed node) sound facts = facts

next_more : (config : Config) (world : World) (told other : Told) (more : List Told) → WorldFacts config world → Keeps config (next_step config world (told ∷ (other ∷ more)))
next_more config world (Sending from to (Ok message)) other more facts = facts
next_more config world (Sending from to (Err refusal)) other more facts = facts
next_more config world (Delivering number (Ok reply)) other more facts = facts
next_more config world (Delivering number (Err refusal)) other more facts = facts
next_more config world (Opening at group external told) other more facts = facts
next_more config world (Registering asks at told) other more facts = facts
next_more config world (Writing node writer number told) other more facts = facts
next_more config world (Routing node told) other more facts = facts
next_more config world (Answering reply told) other more facts = facts
next_more config world (NoPush from to) other more facts = facts
next_more config world (NoPull to from) other more facts = facts
next_more config world (Bytes message) other more facts = facts
next_more config world (Tables node) other more facts = facts
next_more config world (Batches node) other more facts = facts
next_more config world (Crashed node) other more facts = facts

next_on : (config : Config) (world : World) (told : List Told) → IsSound config → WorldFacts config world → Keeps config (next_step config world told)
next_on config world [] sound facts = facts
next_on config world (told ∷ []) sound facts = next_one config world told sound facts
next_on config world (told ∷ (other ∷ more)) sound facts = next_more config world told other more facts

exchanged_on : (config : Config) (message : Happened) → IsSound config → Keeps config message → Keeps config (exchanged config message)
exchanged_on config message sound facts =
    let first : Happened = next_step config message.world message.told in
    next_on config first.world first.told sound (next_on config message.world message.told sound facts)

if_on : (config : Config) (b : Bool) (world : World) (from to id : List ℕ) (node : Node) (none : Told) → IsSound config → WorldFacts config world
    → node_at world from ≡ Some node → Keeps config (exchanged_if b config world from to node none)
if_on config true world from to id node none sound facts is = exchanged_on config (sent config world from to [] (Some node)) sound (sent_by config world from to [] (Some node) facts is)
if_on config false world from to id node none sound facts is = facts

pushed_on : (config : Config) (world : World) (from to : List ℕ) (found : Option Node) → IsSound config → WorldFacts config world → node_at world from ≡ found
    → Keeps config (pushed config world from to found)
pushed_on config world from to None sound facts is = facts
pushed_on config world from to (Some node) sound facts is =
    if_on config (may_exchange (has_push config) (state_in config node) to) world from to from node (NoPush from to) sound facts is

pulled_on : (config : Config) (world : World) (to from : List ℕ) (found : Option Node) → IsSound config → WorldFacts config world → node_at world from ≡ found
    → Keeps config (pulled config world to from found)
pulled_on config world to from None sound facts is = facts
pulled_on config world to from (Some node) sound facts is =
    if_on config (may_exchange (has_pull config) (state_in config node) to) world from to from node (NoPull to from) sound facts is

-- ANY EVENT
one_event : (config : Config) (noise : List ℕ) (world : World) (e : WorldEvent) → IsSound config → IsNew world e → WorldFacts config world
    → Keeps config (happened config noise world e)
one_event config noise world (event.Node me) sound new facts = node_comes config world me facts new
one_event config noise world (event.Open at group external) sound new facts = opened_on config noise world at group external (node_at world at) sound facts refl
one_event config noise world (event.Register asks at) sound new facts = registered_on config world asks at (node_at world asks) (node_at world at) sound facts refl refl
one_event config noise world (event.Write node writer number rows) sound new facts = written_on config world node writer number rows (node_at world node) sound facts refl
one_event config noise world (event.Route node) sound new facts = routed_on config world node (node_at world node) sound facts refl
one_event config noise world (event.Send from to channels) sound new facts = sent_by config world from to channels (node_at world from) facts refl
one_event config noise world (event.Deliver message channels) sound new facts = deliver_on config world message channels (message_of world message) sound facts refl
one_event config noise world (event.Answer reply) sound new facts = reply_on config world reply (reply_of world reply) sound facts refl
one_event config noise world (event.Push from to) sound new facts = pushed_on config world from to (node_at world from) sound facts refl
one_event config noise world (event.Pull to from) sound new facts = pulled_on config world to from (node_at world from) sound facts refl
one_event config noise world (event.Wire message) sound new facts = facts
one_event config noise world (event.Show node) sound new facts = facts
one_event config noise world (event.Batches node) sound new facts = facts
one_event config noise world (event.Crash node) sound new facts = facts
one_event config noise world (event.Fault node stands) sound new facts = armed_on config world node stands (node_at world node) facts refl

nothing_yet : (config : Config) → WorldFacts config empty_world
nothing_yet config = record {
  reached = All-nil (Reached config);
  found = All-nil (λ (node : Node). node_at empty_world (me_of node).id ≡ Some node);
  nodes = λ id node is. no_some node is;
  known = λ id other node is kept. no_some node is;
  lanes = λ a b from to channel is_from is_to apart within. no_some from is_from;
  messages = All-nil (MessageOk config empty_world);
  replies = All-nil (ReplyOk config empty_world);
}

pub all_facts : (config : Config) (noise : List ℕ) (events : List WorldEvent) → IsSound config → AreNew config noise events
    → WorldFacts config (world_after config noise events)
all_facts config noise [] sound new = nothing_yet config
all_facts config noise (e ∷ older) sound new =
    one_event config noise (world_after config noise older) e sound new.0 (all_facts config noise older sound new.1)
