-- What stays by every call of a node, every fault that is armed, every new node and all that is said stays by every event.
use Rattle.std.proofs.Common.{◌≡◌, ℕ, Bool, true, false, cond, List, [], ◌∷◌, ◌++◌, Option, None, Some, Result, Ok, Err, refl, sym, ap, subst, ◌∙◌, ◌==◌}
use Rattle.std.specs.List.{enumerate_from}
use Rattle.sds_value.specs.declared.row.Peer.{Peer}
use Rattle.sds_types.specs.declared.ack.Ack.{Ack}
use Rattle.sds_types.specs.declared.ack.AckRefusal.TheVariants.{UnknownNode}
use Rattle.sds_types.specs.declared.batch.OutBatch.{OutBatch}
use Rattle.sds_types.specs.declared.config.Config.{Config}
use Rattle.sds_types.specs.declared.load_answer.LoadAnswer.{LoadAnswer}
use Rattle.sds_types.specs.declared.load_answer.LoadAnswer.TheVariants as answer
use Rattle.sds_types.specs.declared.load_answer.PeerRefusal.{PeerRefusal}
use Rattle.sds_types.specs.declared.message.Message.{Message}
use Rattle.sds_types.specs.declared.message.Reply.{Reply}
use Rattle.sds_types.specs.declared.node_fault.NodeFault.{NodeFault}
use Rattle.sds_types.specs.declared.registration.RegRefusal.{RegRefusal}
use Rattle.sds_types.specs.declared.sync.SyncRefusal.{SyncRefusal}
use Rattle.sds_types.specs.declared.sync.SyncRefusal.TheVariants.{NoWay}
use Rattle.sds_types.specs.declared.tx_row.TxRow.{TxRow}
use Rattle.sds_types.specs.declared.world_event.WorldEvent.{WorldEvent}
use Rattle.sds_types.specs.declared.world_event.WorldEvent.TheVariants as event
use Rattle.sds_trade.specs.rules.Outcomes.{prepared_batch}
use Rattle.sds_history.specs.history.Acts.{Act, State}
use Rattle.sds_history.specs.history.Documents.{doc_of_batch, way_from}
use Rattle.sds_history.specs.history.Links.{has_pull, has_push}
use Rattle.sds_history.specs.history.Messages.{batches_in_parts, parts_of}
use Rattle.sds_history.specs.world.Answering.{answered_at, answered_reply, confirmed, take_at}
use Rattle.sds_history.specs.world.Calling.{Called, after_call, armed}
use Rattle.sds_history.specs.world.DeliverOrder.{deliver_order}
use Rattle.sds_history.specs.world.Delivering.{confirm_at, delivered, delivered_at, delivered_between, delivery_of, replied}
use Rattle.sds_history.specs.world.Delivery.{Delivery, acks_in_order, answered, delivered_batches, is_over, load_at, with_load}
use Rattle.sds_history.specs.world.Events.{happened, routed, route_at, with_fault, write_at, written}
use Rattle.sds_history.specs.world.Exchanging.{exchanged, exchanged_if, may_exchange, next_step, pulled, pushed}
use Rattle.sds_history.specs.world.Happened.{Happened, Told, quiet, tells}
use Rattle.sds_history.specs.world.Happened.Told.{Opening, Registering, Writing, Routing, Sending, Delivering, Answering, NoPush, NoPull, Bytes, Tables, Batches, Crashed}
use Rattle.sds_history.specs.world.Registering.{after_register, join_at, join_in, open_at, opened_at, register_at, registered}
use Rattle.sds_history.specs.world.Sending.{may_send, may_take, sent, sent_parts}
use Rattle.sds_history.specs.world.Worlds.{Node, World, me_of, message_of, node_at, reply_of, state_in, with_new_node, with_node}
use Rattle.sds_nodelaws.specs.Calls.{Call, act_of}
use Rattle.sds_nodelaws.specs.Calls.Call.{Write, Route, Load, TakeAcks, Open, Register, Join, Confirm}
use Rattle.sds_worldlaws.proofs.CallSteps.{me_stays}
use Rattle.sds_worldlaws.proofs.Deliveries.{put_twice}
use Rattle.sds_worldlaws.proofs.WorldFacts.{at_same, id_of_found}

-- what stays by each of these
pub record Stays (config : Config) (W : World → Type 0) : Type 0 where
  pub calls : (world : World) (id : List ℕ) (node : Node) (call : Call) → node_at world id ≡ Some node → W world
      → W (with_node world (after_call node (act_of config (state_in config node) call)))
  pub faults : (world : World) (id : List ℕ) (node : Node) (faults : List Bool) → node_at world id ≡ Some node → W world
      → W (with_node world (record { history = node.history; faults = faults }))
  pub news : (world : World) (me : Peer) → W world → W (with_new_node world me)
  pub said : (world : World) (messages : List Message) (replies : List Reply) → W world
      → W (record { nodes = world.nodes; messages = messages; replies = replies })

-- PLAIN EVENTS
written_on : (config : Config) (W : World → Type 0) (stays : Stays config W) (world : World) (id writer : List ℕ) (number : ℕ) (rows : List TxRow) (found : Option Node)
    → node_at world id ≡ found → W world → W (written config world id writer number rows found).world
written_on config W stays world id writer number rows None is w = w
written_on config W stays world id writer number rows (Some node) is w = stays.calls world id node (Write writer number rows) is w

routed_on : (config : Config) (W : World → Type 0) (stays : Stays config W) (world : World) (id : List ℕ) (found : Option Node) → node_at world id ≡ found → W world
    → W (routed config world id found).world
routed_on config W stays world id None is w = w
routed_on config W stays world id (Some node) is w = stays.calls world id node Route is w

armed_on : (config : Config) (W : World → Type 0) (stays : Stays config W) (world : World) (id : List ℕ) (stands : Bool) (found : Option Node) → node_at world id ≡ found
    → W world → W (with_fault world stands found).world
armed_on config W stays world id stands None is w = w
armed_on config W stays world id stands (Some node) is w = stays.faults world id node (node.faults ++ stands ∷ []) is w

opened_on : (config : Config) (W : World → Type 0) (stays : Stays config W) (noise : List ℕ) (world : World) (at group external : List ℕ) (found : Option Node)
    → node_at world at ≡ found → W world → W (opened_at config noise world at group external found).world
opened_on config W stays noise world at group external None is w = w
opened_on config W stays noise world at group external (Some node) is w = stays.calls world at node (Open group external noise) is w

-- REGISTRATIONS
joined_on : (config : Config) (W : World → Type 0) (stays : Stays config W) (world : World) (asks : List ℕ) (other : Node) (token : List ℕ) (found : Option Node)
    → node_at world asks ≡ found → W world → W (join_in config world asks other token found).world
joined_on config W stays world asks other token None is w = w
joined_on config W stays world asks other token (Some node) is w = stays.calls world asks node (Join (me_of other) token) is w

after_on : (config : Config) (W : World → Type 0) (stays : Stays config W) (world : World) (asks at : List ℕ) (node : Node) (told : Result (List ℕ) RegRefusal) → W world
    → W (after_register config world asks at node told).world
after_on config W stays world asks at node (Err refusal) w = w
after_on config W stays world asks at node (Ok token) w = joined_on config W stays world asks node token (node_at world asks) refl w

registered_on : (config : Config) (W : World → Type 0) (stays : Stays config W) (world : World) (asks at : List ℕ) (child found : Option Node) → node_at world at ≡ found
    → W world → W (registered config world asks at child found).world
registered_on config W stays world asks at None None is w = w
registered_on config W stays world asks at None (Some node) is w = w
registered_on config W stays world asks at (Some child) None is w = w
registered_on config W stays world asks at (Some child) (Some node) is w =
    after_on config W stays (with_node world (register_at config node child).node) asks at (register_at config node child).node (register_at config node child).answer
    (stays.calls world at node (Register (me_of child)) is w)

-- MESSAGES
sent_on : (config : Config) (W : World → Type 0) (stays : Stays config W) (world : World) (from to : List ℕ) (channels : List ℕ) (node : Node) (b : Bool) → W world
    → W (cond b (sent_parts world from to (parts_of config (state_in config node) to channels)) (tells world (Sending from to (Err NoWay)))).world
sent_on config W stays world from to channels node true w =
    stays.said world (world.messages ++ record { from = from; to = to; parts = parts_of config (state_in config node) to channels } ∷ []) world.replies w
sent_on config W stays world from to channels node false w = w

sent_by : (config : Config) (W : World → Type 0) (stays : Stays config W) (world : World) (from to : List ℕ) (channels : List ℕ) (found : Option Node) → W world
    → W (sent config world from to channels found).world
sent_by config W stays world from to channels None w = w
sent_by config W stays world from to channels (Some node) w = sent_on config W stays world from to channels node (may_send config (state_in config node) to) w

-- DELIVERIES. Each batch is a call at the receiver
answered_node : (delivery : Delivery) (at : ℕ × OutBatch) (told : Result LoadAnswer PeerRefusal) → (answered delivery at told).node ≡ delivery.node
answered_node delivery at (Ok (answer.Loaded place)) = refl
answered_node delivery at (Ok (answer.Ignored place)) = refl
answered_node delivery at (Ok answer.Again) = refl
answered_node delivery at (Ok (answer.Erred row rule)) = refl
answered_node delivery at (Ok (answer.Held batch row rule)) = refl
answered_node delivery at (Err refusal) = refl

-- the receiver on its way
record OnWay (W : World → Type 0) (world : World) (id : List ℕ) (node : Node) : Type 0 where
  me : (me_of node).id ≡ id
  so : W (with_node world node)

call_on : (config : Config) (W : World → Type 0) (stays : Stays config W) (world : World) (id : List ℕ) (first node : Node) (call : Call) → node_at world id ≡ Some first
    → OnWay W world id node → OnWay W world id (after_call node (act_of config (state_in config node) call))
call_on config W stays world id first node call is on_way =
    let made : Option Act = act_of config (state_in config node) call in record {
      me = ap (λ (p : Peer). p.id) (me_stays node made) ∙ on_way.me;
      so = subst W (put_twice world node (after_call node made) (ap (λ (p : Peer). p.id) (sym (me_stays node made))))
          (stays.calls (with_node world node) id node call (at_same world id first node is on_way.me) on_way.so);
    }

loaded_on : (config : Config) (W : World → Type 0) (stays : Stays config W) (world : World) (id : List ℕ) (first : Node) (sender : State) (delivery : Delivery) (at : ℕ × OutBatch)
    (b : Bool) → node_at world id ≡ Some first → OnWay W world id delivery.node
    → OnWay W world id (cond b delivery (with_load delivery at (load_at config delivery.node sender at.1))).node
loaded_on config W stays world id first sender delivery at true is on_way = on_way
loaded_on config W stays world id first sender delivery at false is on_way =
    let made : Called LoadAnswer PeerRefusal = load_at config delivery.node sender at.1 in
    subst (OnWay W world id) (sym (answered_node (record delivery { node = made.node }) at made.answer))
    (call_on config W stays world id first delivery.node (Load sender.me.id (prepared_batch config (way_from (state_in config delivery.node) sender.me.id)
    (doc_of_batch config sender at.1))) is on_way)

batches_on : (config : Config) (W : World → Type 0) (stays : Stays config W) (world : World) (id : List ℕ) (first : Node) (sender : State) (delivery : Delivery)
    (batches : List (ℕ × OutBatch)) → node_at world id ≡ Some first → OnWay W world id delivery.node
    → OnWay W world id (delivered_batches config sender delivery batches).node
batches_on config W stays world id first sender delivery [] is on_way = on_way
batches_on config W stays world id first sender delivery (at ∷ batches) is on_way =
    batches_on config W stays world id first sender (cond (is_over delivery at.1) delivery (with_load delivery at (load_at config delivery.node sender at.1))) batches is
    (loaded_on config W stays world id first sender delivery at (is_over delivery at.1) is on_way)

replied_on : (config : Config) (W : World → Type 0) (stays : Stays config W) (world : World) (message : Message) (number : ℕ) (acks : List Ack) (refusal : Option SyncRefusal)
    → W world → W (replied world message number acks refusal).world
replied_on config W stays world message number acks None w =
    stays.said world world.messages (world.replies ++ record { from = message.to; to = message.from; acks = acks } ∷ []) w
replied_on config W stays world message number acks (Some refusal) w = w

taken_on : (config : Config) (W : World → Type 0) (stays : Stays config W) (world : World) (number : ℕ) (message : Message) (channels : List ℕ) (sender : State) (node : Node)
    (b : Bool) → node_at world message.to ≡ Some node → W world
    → W (cond b (delivered_at config world number message channels sender node) (tells world (Delivering number (Err NoWay)))).world
taken_on config W stays world number message channels sender node false is w = w
taken_on config W stays world number message channels sender node true is w =
    let batches : List (ℕ × OutBatch) = enumerate_from 0 (batches_in_parts sender message.to message.parts) in
    let called : Called (Unit {0}) NodeFault = confirm_at config node message.from in
    let delivery : Delivery = delivered_batches config sender (delivery_of called) (deliver_order channels batches) in
    replied_on config W stays (with_node world delivery.node) message number (acks_in_order batches delivery.acks) delivery.refusal
    (batches_on config W stays world message.to node sender (delivery_of called) (deliver_order channels batches) is (record {
      me = ap (λ (p : Peer). p.id) (me_stays node (act_of config (state_in config node) (Confirm message.from))) ∙ id_of_found world message.to node is;
      so = stays.calls world message.to node (Confirm message.from) is w;
    })).so

between_on : (config : Config) (W : World → Type 0) (stays : Stays config W) (world : World) (number : ℕ) (message : Message) (channels : List ℕ) (sender found : Option Node)
    → node_at world message.to ≡ found → W world → W (delivered_between config world number message channels sender found).world
between_on config W stays world number message channels None None is w = w
between_on config W stays world number message channels None (Some node) is w = w
between_on config W stays world number message channels (Some sender) None is w = w
between_on config W stays world number message channels (Some sender) (Some node) is w =
    taken_on config W stays world number message channels (state_in config sender) node (may_take config (state_in config node) message.from) is w

deliver_on : (config : Config) (W : World → Type 0) (stays : Stays config W) (world : World) (number : ℕ) (channels : List ℕ) (message : Option Message) → W world
    → W (delivered config world number channels message).world
deliver_on config W stays world number channels None w = w
deliver_on config W stays world number channels (Some message) w =
    between_on config W stays world number message channels (node_at world message.from) (node_at world message.to) refl w

-- REPLIES
confirmed_on : (config : Config) (W : World → Type 0) (stays : Stays config W) (world : World) (number : ℕ) (reply : Reply) (node : Node) (told : Result (Unit {0}) NodeFault)
    → node_at world reply.to ≡ Some node → OnWay W world reply.to (confirm_at config node reply.from).node
    → W (confirmed config world number reply (confirm_at config node reply.from) told).world
confirmed_on config W stays world number reply node (Ok done) is on_way =
    (call_on config W stays world reply.to node (confirm_at config node reply.from).node (TakeAcks reply.from reply.acks) is on_way).so
confirmed_on config W stays world number reply node (Err fault) is on_way = on_way.so

may_on : (config : Config) (W : World → Type 0) (stays : Stays config W) (world : World) (number : ℕ) (reply : Reply) (node : Node) (b : Bool)
    → node_at world reply.to ≡ Some node → W world
    → W (cond b (confirmed config world number reply (confirm_at config node reply.from) (confirm_at config node reply.from).answer)
    (tells world (Answering number (Err UnknownNode)))).world
may_on config W stays world number reply node true is w =
    confirmed_on config W stays world number reply node (confirm_at config node reply.from).answer is (record {
      me = ap (λ (p : Peer). p.id) (me_stays node (act_of config (state_in config node) (Confirm reply.from))) ∙ id_of_found world reply.to node is;
      so = stays.calls world reply.to node (Confirm reply.from) is w;
    })
may_on config W stays world number reply node false is w = w

answered_on : (config : Config) (W : World → Type 0) (stays : Stays config W) (world : World) (number : ℕ) (reply : Reply) (found : Option Node)
    → node_at world reply.to ≡ found → W world → W (answered_at config world number reply found).world
answered_on config W stays world number reply None is w = w
answered_on config W stays world number reply (Some node) is w =
    may_on config W stays world number reply node (may_send config (state_in config node) reply.from) is w

reply_on : (config : Config) (W : World → Type 0) (stays : Stays config W) (world : World) (number : ℕ) (reply : Option Reply) → W world
    → W (answered_reply config world number reply).world
reply_on config W stays world number None w = w
reply_on config W stays world number (Some reply) w = answered_on config W stays world number reply (node_at world reply.to) refl w

-- EXCHANGES
few_on : (config : Config) (W : World → Type 0) (stays : Stays config W) (world : World) (number : ℕ) (b : Bool) → W world
    → W (cond b (quiet world) (delivered config world number [] (message_of world number))).world
few_on config W stays world number true w = w
few_on config W stays world number false w = deliver_on config W stays world number [] (message_of world number) w

next_one : (config : Config) (W : World → Type 0) (stays : Stays config W) (world : World) (told : Told) → W world → W (next_step config world (told ∷ [])).world
next_one config W stays world (Sending from to (Ok message)) w = few_on config W stays world message.0 (message.1 == 0) w
next_one config W stays world (Sending from to (Err refusal)) w = w
next_one config W stays world (Delivering number (Ok reply)) w = reply_on config W stays world reply.0 (reply_of world reply.0) w
next_one config W stays world (Delivering number (Err refusal)) w = w
next_one config W stays world (Opening at group external told) w = w
next_one config W stays world (Registering asks at told) w = w
next_one config W stays world (Writing node writer number told) w = w
next_one config W stays world (Routing node told) w = w
next_one config W stays world (Answering reply told) w = w
next_one config W stays world (NoPush from to) w = w
next_one config W stays world (NoPull to from) w = w
next_one config W stays world (Bytes message) w = w
next_one config W stays world (Tables node) w = w
next_one config W stays world (Batches node) w = w
next_one config W stays world (Crashed node) w = w

next_more : (config : Config) (W : World → Type 0) (world : World) (told other : Told) (more : List Told) → W world
    → W (next_step config world (told ∷ (other ∷ more))).world
next_more config W world (Sending from to (Ok message)) other more w = w
next_more config W world (Sending from to (Err refusal)) other more w = w
next_more config W world (Delivering number (Ok reply)) other more w = w
next_more config W world (Delivering number (Err refusal)) other more w = w
next_more config W world (Opening at group external told) other more w = w
next_more config W world (Registering asks at told) other more w = w
next_more config W world (Writing node writer number told) other more w = w
next_more config W world (Routing node told) other more w = w
next_more config W world (Answering reply told) other more w = w
next_more config W world (NoPush from to) other more w = w
next_more config W world (NoPull to from) other more w = w
next_more config W world (Bytes message) other more w = w
next_more config W world (Tables node) other more w = w
next_more config W world (Batches node) other more w = w
next_more config W world (Crashed node) other more w = w

next_on : (config : Config) (W : World → Type 0) (stays : Stays config W) (world : World) (told : List Told) → W world → W (next_step config world told).world
next_on config W stays world [] w = w
next_on config W stays world (told ∷ []) w = next_one config W stays world told w
next_on config W stays world (told ∷ (other ∷ more)) w = next_more config W world told other more w

exchanged_on : (config : Config) (W : World → Type 0) (stays : Stays config W) (message : Happened) → W message.world → W (exchanged config message).world
exchanged_on config W stays message w =
    let first : Happened = next_step config message.world message.told in
    next_on config W stays first.world first.told (next_on config W stays message.world message.told w)

if_on : (config : Config) (W : World → Type 0) (stays : Stays config W) (b : Bool) (world : World) (from to : List ℕ) (node : Node) (none : Told) → W world
    → W (exchanged_if b config world from to node none).world
if_on config W stays true world from to node none w =
    exchanged_on config W stays (sent config world from to [] (Some node)) (sent_by config W stays world from to [] (Some node) w)
if_on config W stays false world from to node none w = w

pushed_on : (config : Config) (W : World → Type 0) (stays : Stays config W) (world : World) (from to : List ℕ) (found : Option Node) → W world
    → W (pushed config world from to found).world
pushed_on config W stays world from to None w = w
pushed_on config W stays world from to (Some node) w =
    if_on config W stays (may_exchange (has_push config) (state_in config node) to) world from to node (NoPush from to) w

pulled_on : (config : Config) (W : World → Type 0) (stays : Stays config W) (world : World) (to from : List ℕ) (found : Option Node) → W world
    → W (pulled config world to from found).world
pulled_on config W stays world to from None w = w
pulled_on config W stays world to from (Some node) w =
    if_on config W stays (may_exchange (has_pull config) (state_in config node) to) world from to node (NoPull to from) w

-- ANY EVENT
pub one_event : (config : Config) (W : World → Type 0) (stays : Stays config W) (noise : List ℕ) (world : World) (e : WorldEvent) → W world
    → W (happened config noise world e).world
one_event config W stays noise world (event.Node me) w = stays.news world me w
one_event config W stays noise world (event.Open at group external) w = opened_on config W stays noise world at group external (node_at world at) refl w
one_event config W stays noise world (event.Register asks at) w = registered_on config W stays world asks at (node_at world asks) (node_at world at) refl w
one_event config W stays noise world (event.Write node writer number rows) w = written_on config W stays world node writer number rows (node_at world node) refl w
one_event config W stays noise world (event.Route node) w = routed_on config W stays world node (node_at world node) refl w
one_event config W stays noise world (event.Send from to channels) w = sent_by config W stays world from to channels (node_at world from) w
one_event config W stays noise world (event.Deliver message channels) w = deliver_on config W stays world message channels (message_of world message) w
one_event config W stays noise world (event.Answer reply) w = reply_on config W stays world reply (reply_of world reply) w
one_event config W stays noise world (event.Push from to) w = pushed_on config W stays world from to (node_at world from) w
one_event config W stays noise world (event.Pull to from) w = pulled_on config W stays world to from (node_at world from) w
one_event config W stays noise world (event.Wire message) w = w
one_event config W stays noise world (event.Show node) w = w
one_event config W stays noise world (event.Batches node) w = w
one_event config W stays noise world (event.Crash node) w = w
one_event config W stays noise world (event.Fault node stands) w = armed_on config W stays world node stands (node_at world node) refl w
