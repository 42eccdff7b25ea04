-- What a push that went well leaves acknowledged.
use Rattle.std.specs.Prelude.{◌≡◌, ℕ, List, [], ◌∷◌, length, None, Some, true, Ok}
use Rattle.std.specs.List.{All}
use Rattle.sds_types.specs.declared.ack.Ack.{Ack}
use Rattle.sds_types.specs.declared.batch.OutBatch.{OutBatch}
use Rattle.sds_types.specs.declared.config.Config.{Config}
use Rattle.sds_types.specs.declared.message.Message.{Message}
use Rattle.sds_types.specs.declared.world_event.WorldEvent.{WorldEvent}
use Rattle.sds_types.specs.declared.world_event.WorldEvent.TheVariants as event
use Rattle.sds_trade.specs.rules.Sound.{IsSound}
use Rattle.sds_history.specs.history.Standings.{is_acked}
use Rattle.sds_history.specs.world.Events.{happened}
use Rattle.sds_history.specs.world.Happened.Told.{Answering, Delivering, Sending}
use Rattle.sds_history.specs.world.Worlds.{World, message_of}
use Rattle.sds_worldlaws.specs.Nodes.{world_after}
use Rattle.sds_worldlaws.specs.Progress.{carried}
use Rattle.sds_worldlaws.specs.Stepping.{AreNew}

-- at its sender a message has so many batches, and each is acknowledged
abbrev pub IsAcknowledged : Config → World → Message → ℕ → Type 0
IsAcknowledged config world message size = (length (carried config world message) ≡ size)
    × All (λ (batch : OutBatch). is_acked batch.standing ≡ true) (carried config world message)

-- where an event tells of a message with so many batches, of a reply with an ack for each and no
-- error, and of the reply as taken, each batch of the message is acknowledged after it
abbrev pub LeavesAcknowledged : Config → List ℕ → World → List ℕ → List ℕ → WorldEvent → Type 0
LeavesAcknowledged config noise world from to event =
    (number size place count : ℕ) (acks : List Ack) (message : Message)
    → (happened config noise world event).told
    ≡ Sending from to (Ok (number, size)) ∷ Delivering number (Ok (place, acks))
    ∷ Answering place (Ok count) ∷ []
    → length acks ≡ size → All (λ (ack : Ack). ack.error ≡ None) acks
    → message_of (happened config noise world event).world number ≡ Some message
    → IsAcknowledged config (happened config noise world event).world message size

-- so does a push, and so does a pull
abbrev pub PushesAcknowledge : Type 0
PushesAcknowledge = (config : Config) → IsSound config → (noise : List ℕ)
    (events : List WorldEvent) → AreNew config noise events → (from to : List ℕ)
    → LeavesAcknowledged config noise (world_after config noise events) from to
    (event.Push from to)

abbrev pub PullsAcknowledge : Type 0
PullsAcknowledge = (config : Config) → IsSound config → (noise : List ℕ)
    (events : List WorldEvent) → AreNew config noise events → (from to : List ℕ)
    → LeavesAcknowledged config noise (world_after config noise events) from to
    (event.Pull to from)
