-- What happens in a world at each event.
use Rattle.std.specs.Prelude.{ℕ, Bool, List, Option, None, Some}
use Rattle.sds_types.specs.declared.config.Config.{Config}
use Rattle.sds_types.specs.declared.node_fault.NodeFault.{NodeFault}
use Rattle.sds_types.specs.declared.tx_row.TxRow.{TxRow}
use Rattle.sds_types.specs.declared.world_event.WorldEvent.{WorldEvent}
use Rattle.sds_types.specs.declared.world_event.WorldEvent.TheVariants as event
use Rattle.sds_types.specs.declared.write_answer.WriteRefusal.{WriteRefusal}
use Rattle.sds_types.specs.declared.write_answer.WriteRefusal.TheVariants as refusal
use Rattle.sds_types.specs.declared.write_answer.Written.{Written}
use Rattle.sds_history.specs.history.Routes.{route_act, route_answer}
use Rattle.sds_history.specs.history.Writes.{write_act, write_answer}
use Rattle.sds_history.specs.world.Answering.{answered_reply}
use Rattle.sds_history.specs.world.Calling.{Called, call, armed}
use Rattle.sds_history.specs.world.Delivering.{delivered}
use Rattle.sds_history.specs.world.Exchanging.{pulled, pushed}
use Rattle.sds_history.specs.world.Happened.{Happened, tells, quiet}
use Rattle.sds_history.specs.world.Happened.Told.{Writing, Routing, Bytes, Tables, Batches, Crashed}
use Rattle.sds_history.specs.world.Registering.{opened_at, registered}
use Rattle.sds_history.specs.world.Sending.{sent}
use Rattle.sds_history.specs.world.Worlds.{Node, World, message_of, node_at, reply_of, state_in, with_new_node, with_node}

-- an own write at a node
abbrev pub write_at : Config → Node → List ℕ → ℕ → List TxRow → Called Written WriteRefusal
write_at config node writer number rows = let state = state_in config node in
    call refusal.Fault node (write_act config state writer number rows)
    (write_answer config state writer number rows)

abbrev pub written : Config → World → List ℕ → List ℕ → ℕ → List TxRow → Option Node → Happened
written config world id writer number rows None = quiet world
written config world id writer number rows (Some node) =
    let called = write_at config node writer number rows in
    tells (with_node world called.node) (Writing id writer number called.answer)

-- a routing run at a node
abbrev pub route_at : Config → Node → Called ℕ NodeFault
route_at config node = let state = state_in config node in
    call (λ fault. fault) node (route_act config state) (route_answer config state)

abbrev pub routed : Config → World → List ℕ → Option Node → Happened
routed config world id None = quiet world
routed config world id (Some node) = let called = route_at config node in
    tells (with_node world called.node) (Routing id called.answer)

-- a fault is armed at a node
abbrev pub with_fault : World → Bool → Option Node → Happened
with_fault world stands None = quiet world
with_fault world stands (Some node) = quiet (with_node world (armed node stands))

-- what happens: what is shown changes nothing, and neither does a crash, after which a node is
-- what it kept
abbrev pub happened : Config → List ℕ → World → WorldEvent → Happened
happened config noise world (event.Node me) = quiet (with_new_node world me)
happened config noise world (event.Open at group external) =
    opened_at config noise world at group external (node_at world at)
happened config noise world (event.Register asks at) =
    registered config world asks at (node_at world asks) (node_at world at)
happened config noise world (event.Write node writer number rows) =
    written config world node writer number rows (node_at world node)
happened config noise world (event.Route node) =
    routed config world node (node_at world node)
happened config noise world (event.Send from to channels) =
    sent config world from to channels (node_at world from)
happened config noise world (event.Deliver message channels) =
    delivered config world message channels (message_of world message)
happened config noise world (event.Answer reply) =
    answered_reply config world reply (reply_of world reply)
happened config noise world (event.Push from to) =
    pushed config world from to (node_at world from)
happened config noise world (event.Pull to from) =
    pulled config world to from (node_at world from)
happened config noise world (event.Wire message) = tells world (Bytes message)
happened config noise world (event.Show node) = tells world (Tables node)
happened config noise world (event.Batches node) = tells world (Batches node)
happened config noise world (event.Crash node) = tells world (Crashed node)
happened config noise world (event.Fault node stands) =
    with_fault world stands (node_at world node)
