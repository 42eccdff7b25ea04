-- How a reply is taken at a node.
use Rattle.std.specs.Prelude.{◌≡◌, ℕ, Bool, true, false, Result, Ok, Err}
use Rattle.sds_types.specs.declared.ack.AckRefusal.{AckRefusal}
use Rattle.sds_types.specs.declared.ack.AckRefusal.TheVariants.{Fault, UnknownNode}
use Rattle.sds_types.specs.declared.config.Config.{Config}
use Rattle.sds_types.specs.declared.message.Reply.{Reply}
use Rattle.sds_types.specs.declared.node_fault.NodeFault.{NodeFault}
use Rattle.sds_history.specs.world.Answering.{take_at}
use Rattle.sds_history.specs.world.Calling.{Called}
use Rattle.sds_history.specs.world.Delivering.{confirm_at}
use Rattle.sds_history.specs.world.Sending.{may_send}
use Rattle.sds_history.specs.world.Worlds.{Node, state_in}

-- once the node that answers was confirmed its acks are taken
abbrev pub taken_after : Config → Reply → Node → Result (Unit {0}) NodeFault
    → Called ℕ AckRefusal
taken_after config reply node (Ok done) = take_at config node reply
taken_after config reply node (Err fault) = record { node = node; answer = Err (Fault fault) }

abbrev pub taken_at : Config → Node → Reply → Called ℕ AckRefusal
taken_at config node reply = let called = confirm_at config node reply.from in
    taken_after config reply called.node called.answer

-- a node took a reply, or no way leads to the node that answers
abbrev pub AnswersIf : Bool → Config → Node → Reply → (Node → Type 0) → Result ℕ AckRefusal
    → Type 0
AnswersIf false config node reply stands answer = stands node × (answer ≡ Err UnknownNode)
AnswersIf true config node reply stands answer = stands (taken_at config node reply).node
    × (answer ≡ (taken_at config node reply).answer)

abbrev pub Answers : Config → Node → Reply → (Node → Type 0) → Result ℕ AckRefusal → Type 0
Answers config node reply stands answer =
    AnswersIf (may_send config (state_in config node) reply.from) config node reply stands answer
