-- A reply comes back: the receiver is confirmed, and the acks are taken.
use Rattle.std.specs.Prelude.{ℕ, if◌then◌else◌, Option, None, Some, Result, Ok, Err}
use Rattle.sds_types.specs.declared.ack.AckRefusal.{AckRefusal}
use Rattle.sds_types.specs.declared.ack.AckRefusal.TheVariants.{UnknownNode, Fault}
use Rattle.sds_types.specs.declared.config.Config.{Config}
use Rattle.sds_types.specs.declared.message.Reply.{Reply}
use Rattle.sds_types.specs.declared.node_fault.NodeFault.{NodeFault}
use Rattle.sds_history.specs.history.Acks.{acks_act, acks_answer}
use Rattle.sds_history.specs.world.Calling.{Called, call}
use Rattle.sds_history.specs.world.Delivering.{confirm_at}
use Rattle.sds_history.specs.world.Happened.{Happened, tells, quiet}
use Rattle.sds_history.specs.world.Happened.Told.{Answering}
use Rattle.sds_history.specs.world.Sending.{may_send}
use Rattle.sds_history.specs.world.Worlds.{Node, World, node_at, state_in, with_node}

-- the acks are taken at the sender
abbrev pub take_at : Config → Node → Reply → Called ℕ AckRefusal
take_at config node reply = let state = state_in config node in
    call Fault node (acks_act config state reply.from reply.acks)
    (acks_answer config state reply.from reply.acks)

-- where the confirmation fails the acks aren't taken
abbrev pub confirmed : Config → World → ℕ → Reply → Called (Unit {0}) NodeFault
    → Result (Unit {0}) NodeFault → Happened
confirmed config world number reply called (Ok done) =
    let taken = take_at config called.node reply in
    tells (with_node world taken.node) (Answering number taken.answer)
confirmed config world number reply called (Err fault) =
    tells (with_node world called.node) (Answering number (Err (Fault fault)))

abbrev pub answered_at : Config → World → ℕ → Reply → Option Node → Happened
answered_at config world number reply None = quiet world
answered_at config world number reply (Some node) =
    if may_send config (state_in config node) reply.from
    then (let called = confirm_at config node reply.from in
    confirmed config world number reply called called.answer)
    else tells world (Answering number (Err UnknownNode))

abbrev pub answered_reply : Config → World → ℕ → Option Reply → Happened
answered_reply config world number None = quiet world
answered_reply config world number (Some reply) =
    answered_at config world number reply (node_at world reply.to)
