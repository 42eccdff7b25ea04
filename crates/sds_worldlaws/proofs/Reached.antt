-- After any list of events each node's history is made by its calls.
use Rattle.std.proofs.Common.{◌≡◌, ℕ, Bool, true, false, cond, List, [], ◌∷◌, ◌++◌, Option, None, Some, Result, Ok, Err, refl, sym, ap, subst, ◌∙◌, find, All, ◌==◌}
use Rattle.std.specs.List.{enumerate_from}
use Rattle.std.proofs.lemmas.List.Elements.{All-nil, All-cons, All-append, All-map}
use Rattle.sds_value.specs.declared.row.Peer.{Peer}
use Rattle.sds_types.specs.declared.ack.Ack.{Ack}
use Rattle.sds_types.specs.declared.ack.AckRefusal.TheVariants.{UnknownNode}
use Rattle.sds_types.specs.declared.batch.OutBatch.{OutBatch}
use Rattle.sds_types.specs.declared.config.Config.{Config}
use Rattle.sds_types.specs.declared.load_answer.LoadAnswer.{LoadAnswer}
use Rattle.sds_types.specs.declared.load_answer.LoadAnswer.TheVariants as answer
use Rattle.sds_types.specs.declared.load_answer.PeerRefusal.{PeerRefusal}
use Rattle.sds_types.specs.declared.message.Message.{Message}
use Rattle.sds_types.specs.declared.message.Reply.{Reply}
use Rattle.sds_types.specs.declared.node_fault.NodeFault.{NodeFault}
use Rattle.sds_types.specs.declared.registration.RegRefusal.{RegRefusal}
use Rattle.sds_types.specs.declared.sync.SyncRefusal.{SyncRefusal}
use Rattle.sds_types.specs.declared.sync.SyncRefusal.TheVariants.{NoWay}
use Rattle.sds_types.specs.declared.tx_row.TxRow.{TxRow}
use Rattle.sds_types.specs.declared.world_event.WorldEvent.{WorldEvent}
use Rattle.sds_types.specs.declared.world_event.WorldEvent.TheVariants as event
use Rattle.sds_trade.proofs.Lists.{all_head, all_tail}
use Rattle.sds_trade.specs.rules.Outcomes.{prepared_batch}
use Rattle.sds_history.specs.history.Acts.{Act, State}
use Rattle.sds_history.specs.history.Documents.{doc_of_batch, way_from}
use Rattle.sds_history.specs.history.Links.{has_pull, has_push}
use Rattle.sds_history.specs.history.Messages.{batches_in_parts, parts_of}
use Rattle.sds_history.specs.world.Answering.{answered_at, answered_reply, confirmed, take_at}
use Rattle.sds_history.specs.world.Calling.{Called, act_stands, after_act, after_call, armed, with_act}
use Rattle.sds_history.specs.world.DeliverOrder.{deliver_order}
use Rattle.sds_history.specs.world.Delivering.{confirm_at, delivered, delivered_at, delivered_between, delivery_of, replied}
use Rattle.sds_history.specs.world.Delivery.{Delivery, acks_in_order, answered, delivered_batches, is_over, load_at, with_load}
use Rattle.sds_history.specs.world.Events.{happened, routed, route_at, with_fault, write_at, written}
use Rattle.sds_history.specs.world.Exchanging.{exchanged, exchanged_if, may_exchange, next_step, pulled, pushed}
use Rattle.sds_history.specs.world.Happened.{Happened, Told, quiet, tells}
use Rattle.sds_history.specs.world.Happened.Told.{Opening, Registering, Writing, Routing, Sending, Delivering, Answering, NoPush, NoPull, Bytes, Tables, Batches, Crashed}
use Rattle.sds_history.specs.world.Registering.{after_register, join_at, join_in, open_at, opened_at, register_at, registered}
use Rattle.sds_history.specs.world.Sending.{may_send, may_take, sent, sent_parts}
use Rattle.sds_history.specs.world.Worlds.{Node, World, has_id, me_of, message_of, new_node, node_at, one_for, reply_of, state_in, with_node}
use Rattle.sds_nodelaws.specs.Calls.{Call, act_of, begun, called, called_all, with_made}
use Rattle.sds_nodelaws.specs.Calls.Call.{Write, Route, Load, TakeAcks, Open, Register, Join, Confirm}
use Rattle.sds_worldlaws.specs.Nodes.{world_after}

-- the history of a node is that of a node that began, after calls
pub record Reached (config : Config) (node : Node) : Type 0 where
  pub me : Peer
  pub calls : List Call
  pub same : node.history ≡ called_all config (begun me) calls

abbrev pub AllReached : Config → World → Type 0
AllReached config world = All (Reached config) world.nodes

-- CALLS. The act of a call, if it stands, is one more call
pub made_more : (config : Config) (node : Node) (call : Call) (act : Act) (faults : List Bool) → act_of config (state_in config node) call ≡ Some act
    → Reached config node → Reached config (record { history = with_act node.history act; faults = faults })
made_more config node call act faults is before = record {
  me = before.me;
  calls = call ∷ before.calls;
  same = sym (ap (with_made node.history) is) ∙ ap (λ h. called config h call) before.same;
}

pub same_history : (config : Config) (node : Node) (faults : List Bool) → Reached config node → Reached config (record { history = node.history; faults = faults })
same_history config node faults before = record { me = before.me; calls = before.calls; same = before.same }

stands_on : (config : Config) (node : Node) (call : Call) (act : Act) (stands : Bool) (faults : List Bool) → act_of config (state_in config node) call ≡ Some act
    → Reached config node → Reached config (record { history = act_stands stands node.history act; faults = faults })
stands_on config node call act true faults is before = made_more config node call act faults is before
stands_on config node call act false faults is before = same_history config node faults before

acted_on : (config : Config) (node : Node) (call : Call) (act : Act) (faults : List Bool) → act_of config (state_in config node) call ≡ Some act
    → Reached config node → Reached config (after_act node act faults)
acted_on config node call act [] is before = made_more config node call act node.faults is before
acted_on config node call act (stands ∷ faults) is before = stands_on config node call act stands faults is before

called_on : (config : Config) (node : Node) (call : Call) (made : Option Act) → act_of config (state_in config node) call ≡ made → Reached config node
    → Reached config (after_call node made)
called_on config node call None is before = before
called_on config node call (Some act) is before = acted_on config node call act node.faults is before

-- a node after a call
pub after : (config : Config) (node : Node) (call : Call) → Reached config node → Reached config (after_call node (act_of config (state_in config node) call))
after config node call before = called_on config node call (act_of config (state_in config node) call) refl before

-- NODES. In a world, one node in the place of another
put_on : (config : Config) (new node : Node) (b : Bool) → Reached config new → Reached config node → Reached config (cond b new node)
put_on config new node true first second = first
put_on config new node false first second = second

mapped : {X : Type 0} (P Q : X → Type 0) (xs : List X) → ((x : X) → P x → Q x) → All P xs → All Q xs
mapped P Q xs each are k d within = each _ (are k d within)

pub put : (config : Config) (world : World) (new : Node) → AllReached config world → Reached config new → AllReached config (with_node world new)
put config world new are is =
    All-map (Reached config) (one_for new) world.nodes
    (mapped (Reached config) (λ node. Reached config (one_for new node)) world.nodes (λ node before. put_on config new node (has_id (me_of new).id node) is before) are)

-- A NEW NODE made no call
pub new_on : (config : Config) (me : Peer) → Reached config (new_node me)
new_on config me = record { me = me; calls = []; same = refl }
