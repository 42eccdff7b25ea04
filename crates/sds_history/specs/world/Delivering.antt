-- A message is delivered: its sender is confirmed, its batches are loaded, and a reply is made.
use Rattle.std.specs.Prelude.{ℕ, ◌+◌, if◌then◌else◌, List, [], ◌∷◌, ◌++◌, length, Option, None, Some, Result, Ok, Err}
use Rattle.std.specs.List.{enumerate_from}
use Rattle.sds_types.specs.declared.ack.Ack.{Ack}
use Rattle.sds_types.specs.declared.config.Config.{Config}
use Rattle.sds_types.specs.declared.message.Message.{Message}
use Rattle.sds_types.specs.declared.node_fault.NodeFault.{NodeFault}
use Rattle.sds_types.specs.declared.sync.SyncRefusal.{SyncRefusal}
use Rattle.sds_types.specs.declared.sync.SyncRefusal.TheVariants.{NoWay, Fault}
use Rattle.sds_history.specs.history.Acts.{State}
use Rattle.sds_history.specs.history.Registrations.{confirm_act, confirm_answer}
use Rattle.sds_history.specs.history.Messages.{batches_in_parts}
use Rattle.sds_history.specs.world.Calling.{Called, call}
use Rattle.sds_history.specs.world.Happened.{Happened, tells, quiet}
use Rattle.sds_history.specs.world.Happened.Told.{Delivering}
use Rattle.sds_history.specs.world.DeliverOrder.{deliver_order}
use Rattle.sds_history.specs.world.Sending.{may_take}
use Rattle.sds_history.specs.world.Worlds.{Node, World, node_at, state_in, with_node}
use Rattle.sds_history.specs.world.Delivery.{Delivery, delivered_batches, acks_in_order}

-- a reply from the receiver to the sender is made, unless the delivery was refused
abbrev pub with_reply : World → Message → List Ack → World
with_reply world message acks = record world {
  replies = world.replies
      ++ record { from = message.to; to = message.from; acks = acks } ∷ [];
}

abbrev pub replied : World → Message → ℕ → List Ack → Option SyncRefusal → Happened
replied world message number acks (Some refusal) = tells world (Delivering number (Err refusal))
replied world message number acks None = tells (with_reply world message acks)
    (Delivering number (Ok (length world.replies + 1, acks)))

-- the receiver confirms the sender, and goes on unless that fails
abbrev pub confirm_at : Config → Node → List ℕ → Called (Unit {0}) NodeFault
confirm_at config node peer = let state = state_in config node in
    call (λ fault. fault) node (confirm_act config state peer) (confirm_answer config state peer)

abbrev pub fault_in : Result (Unit {0}) NodeFault → Option SyncRefusal
fault_in (Ok done) = None
fault_in (Err fault) = Some (Fault fault)

abbrev pub delivery_of : Called (Unit {0}) NodeFault → Delivery
delivery_of called = record {
  node = called.node;
  acks = [];
  held = [];
  refusal = fault_in called.answer;
}

abbrev pub delivered_at : Config → World → ℕ → Message → List ℕ → State → Node → Happened
delivered_at config world number message channels sender node =
    let batches = enumerate_from 0 (batches_in_parts sender message.to message.parts) in
    let delivery = delivered_batches config sender
    (delivery_of (confirm_at config node message.from)) (deliver_order channels batches) in
    replied (with_node world delivery.node) message number
    (acks_in_order batches delivery.acks) delivery.refusal

abbrev pub delivered_between : Config → World → ℕ → Message → List ℕ → Option Node
    → Option Node → Happened
delivered_between config world number message channels (Some sender) (Some node) =
    if may_take config (state_in config node) message.from
    then delivered_at config world number message channels (state_in config sender) node
    else tells world (Delivering number (Err NoWay))
delivered_between config world number message channels sender other = quiet world

abbrev pub delivered : Config → World → ℕ → List ℕ → Option Message → Happened
delivered config world number channels None = quiet world
delivered config world number channels (Some message) = delivered_between config world number
    message channels (node_at world message.from) (node_at world message.to)
