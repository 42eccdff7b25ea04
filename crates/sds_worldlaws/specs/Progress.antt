-- What is acknowledged where nothing fails.
use Rattle.std.specs.Prelude.{◌≡◌, ◌==◌, ◌&&◌, ℕ, List, [], ◌∷◌, map, length, None, Some, true, Ok}
use Rattle.std.specs.List.{All}
use Rattle.std.specs.Option.{option_map_or}
use Rattle.sds_types.specs.declared.ack.Ack.{Ack}
use Rattle.sds_types.specs.declared.batch.OutBatch.{OutBatch}
use Rattle.sds_types.specs.declared.config.Config.{Config}
use Rattle.sds_types.specs.declared.message.Message.{Message}
use Rattle.sds_types.specs.declared.message.Reply.{Reply}
use Rattle.sds_types.specs.declared.world_event.WorldEvent.{WorldEvent}
use Rattle.sds_types.specs.declared.world_event.WorldEvent.TheVariants as event
use Rattle.sds_history.specs.history.Acts.{State}
use Rattle.sds_history.specs.history.Messages.{batches_in_parts}
use Rattle.sds_history.specs.history.Standings.{is_acked}
use Rattle.sds_history.specs.world.Events.{happened}
use Rattle.sds_history.specs.world.Happened.Told.{Answering, Delivering}
use Rattle.sds_history.specs.world.InStep.{is_batch_to}
use Rattle.sds_history.specs.world.Worlds.{Node, World, message_of, node_at, reply_of, state_in}
use Rattle.sds_worldlaws.specs.Nodes.{world_after}

-- a batch to a node that an ack without an error names is acknowledged
abbrev pub IsCounted : State → List ℕ → Ack → Type 0
IsCounted state to ack = ack.error ≡ None → All (λ (batch : OutBatch).
    is_batch_to to ack.batch batch ≡ true → is_acked batch.standing ≡ true) state.batches

-- a reply that is taken acknowledges each batch that it tells as loaded
abbrev pub TakenRepliesCount : Type 0
TakenRepliesCount = (config : Config) (noise : List ℕ) (events : List WorldEvent)
    (number count : ℕ) (reply : Reply) (sender : Node)
    → reply_of (world_after config noise events) number ≡ Some reply
    → (happened config noise (world_after config noise events) (event.Answer number)).told
    ≡ Answering number (Ok count) ∷ []
    → node_at (happened config noise (world_after config noise events)
    (event.Answer number)).world reply.to ≡ Some sender
    → All (IsCounted (state_in config sender) reply.from) reply.acks

-- the batches of a message at its sender
abbrev pub carried : Config → World → Message → List OutBatch
carried config world message = option_map_or (λ (sender : Node).
    batches_in_parts (state_in config sender) message.to message.parts)
    (node_at world message.from) []

-- a reply that has an ack for each batch of its message names them in the message's order
abbrev pub RepliesAnswerInOrder : Type 0
RepliesAnswerInOrder = (config : Config) (noise : List ℕ) (events : List WorldEvent)
    (number place : ℕ) (channels : List ℕ) (acks : List Ack) (message : Message)
    → message_of (world_after config noise events) number ≡ Some message
    → (happened config noise (world_after config noise events)
    (event.Deliver number channels)).told ≡ Delivering number (Ok (place, acks)) ∷ []
    → length acks ≡ length (carried config (world_after config noise events) message)
    → map (λ (ack : Ack). ack.batch) acks
    ≡ map (λ (batch : OutBatch). batch.id)
    (carried config (world_after config noise events) message)
