-- Where a message begins in each channel.
use Rattle.std.specs.Prelude.{◌≡◌, ◌<◌, ℕ, List, [], ◌∷◌, take, drop, Some, true, Ok}
use Rattle.std.specs.List.{All}
use Rattle.sds_types.specs.declared.batch.OutBatch.{OutBatch}
use Rattle.sds_types.specs.declared.config.Config.{Config}
use Rattle.sds_types.specs.declared.message.Message.{Message}
use Rattle.sds_types.specs.declared.message.MessagePart.{MessagePart}
use Rattle.sds_types.specs.declared.world_event.WorldEvent.{WorldEvent}
use Rattle.sds_types.specs.declared.world_event.WorldEvent.TheVariants as event
use Rattle.sds_history.specs.history.Acts.{State}
use Rattle.sds_history.specs.history.Messages.{lane_made, lane_waiting}
use Rattle.sds_history.specs.history.Standings.{is_acked}
use Rattle.sds_history.specs.world.Events.{happened}
use Rattle.sds_history.specs.world.Happened.{Told}
use Rattle.sds_history.specs.world.Happened.Told.{Sending}
use Rattle.sds_history.specs.world.Worlds.{Node, World, message_of, node_at, state_in}
use Rattle.sds_worldlaws.specs.Nodes.{world_after}

-- the batches before a part are acknowledged, those from its start on are all that wait, and a
-- part of a lane in which a batch waits has at least one
pub record BeginsWaiting (state : State) (to : List ℕ) (part : MessagePart) : Type 0 where
  pub before : All (λ (batch : OutBatch). is_acked batch.standing ≡ true)
      (take part.start (lane_made state to part.channel))
  pub after : drop part.start (lane_made state to part.channel)
      ≡ lane_waiting state to part.channel
  pub some : (batch : OutBatch) (others : List OutBatch)
      → lane_waiting state to part.channel ≡ batch ∷ others → 0 < part.count

-- the message that an event sends begins, in each of its channels, with the first batch that
-- its sender holds as not acknowledged
abbrev pub SendsWaiting : Config → List ℕ → World → List ℕ → List ℕ → WorldEvent → Type 0
SendsWaiting config noise world from to event =
    (number size : ℕ) (rest : List Told) (message : Message) (sender : Node)
    → (happened config noise world event).told ≡ Sending from to (Ok (number, size)) ∷ rest
    → message_of (happened config noise world event).world number ≡ Some message
    → node_at world from ≡ Some sender
    → All (BeginsWaiting (state_in config sender) to) message.parts

-- whether it is sent by itself, in a push or in a pull
abbrev pub MessagesBeginWaiting : Type 0
MessagesBeginWaiting = (config : Config) (noise : List ℕ) (events : List WorldEvent)
    (from to : List ℕ) (channels : List ℕ)
    → All (SendsWaiting config noise (world_after config noise events) from to)
    (event.Send from to channels ∷ event.Push from to ∷ event.Pull to from ∷ [])
