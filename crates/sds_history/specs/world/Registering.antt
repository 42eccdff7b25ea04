-- A registration: a node asks at another, which keeps it, and keeps the other with the token.
use Rattle.std.specs.Prelude.{ℕ, List, Option, None, Some, Result, Ok, Err}
use Rattle.sds_types.specs.declared.config.Config.{Config}
use Rattle.sds_types.specs.declared.registration.RegRefusal.{RegRefusal}
use Rattle.sds_types.specs.declared.registration.RegRefusal.TheVariants.{Fault}
use Rattle.sds_history.specs.history.Joins.{join_act, join_answer}
use Rattle.sds_history.specs.history.Registrations.{open_act, open_answer, register_act, register_answer}
use Rattle.sds_history.specs.world.Calling.{Called, call}
use Rattle.sds_history.specs.world.Happened.{Happened, tells, quiet}
use Rattle.sds_history.specs.world.Happened.Told.{Opening, Registering}
use Rattle.sds_history.specs.world.Worlds.{Node, World, me_of, node_at, state_in, with_node}

-- a node opens registration
abbrev pub open_at : Config → List ℕ → Node → List ℕ → List ℕ → Called (Unit {0}) RegRefusal
open_at config noise node group external = let state = state_in config node in
    call Fault node (open_act config state group external noise)
    (open_answer config state group external noise)

abbrev pub opened_at : Config → List ℕ → World → List ℕ → List ℕ → List ℕ → Option Node → Happened
opened_at config noise world at group external None = quiet world
opened_at config noise world at group external (Some node) =
    let called = open_at config noise node group external in
    tells (with_node world called.node) (Opening at group external called.answer)

-- a node is asked to register another
abbrev pub register_at : Config → Node → Node → Called (List ℕ) RegRefusal
register_at config node asks = let state = state_in config node in
    call Fault node (register_act config state (me_of asks))
    (register_answer config state (me_of asks))

-- the other joins it with the token that it was given
abbrev pub join_at : Config → Node → Node → List ℕ → Called (Unit {0}) RegRefusal
join_at config node at token = let state = state_in config node in
    call Fault node (join_act config state (me_of at) token)
    (join_answer config state (me_of at) token)

abbrev pub joined : World → List ℕ → List ℕ → Called (Unit {0}) RegRefusal → Happened
joined world asks at called =
    tells (with_node world called.node) (Registering asks at called.answer)

-- the node that asks is looked up again: it may be the one that is asked
abbrev pub join_in : Config → World → List ℕ → Node → List ℕ → Option Node → Happened
join_in config world asks at token None = quiet world
join_in config world asks at token (Some node) =
    joined world asks (me_of at).id (join_at config node at token)

abbrev pub after_register : Config → World → List ℕ → List ℕ → Node → Result (List ℕ) RegRefusal
    → Happened
after_register config world asks at node (Err refusal) =
    tells world (Registering asks at (Err refusal))
after_register config world asks at node (Ok token) =
    join_in config world asks node token (node_at world asks)

abbrev pub registered : Config → World → List ℕ → List ℕ → Option Node → Option Node → Happened
registered config world asks at (Some child) (Some node) =
    let called = register_at config node child in
    after_register config (with_node world called.node) asks at called.node called.answer
registered config world asks at child other = quiet world
