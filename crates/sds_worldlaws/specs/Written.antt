-- A message that was written is what its sender would write of the same batches later.
use Rattle.std.specs.Prelude.{◌≡◌, ℕ, List, [], ◌++◌, map}
use Rattle.std.specs.List.{All}
use Rattle.std.specs.Option.{option_map_or}
use Rattle.sds_types.specs.declared.config.Config.{Config}
use Rattle.sds_types.specs.declared.document.BatchDoc.{BatchDoc}
use Rattle.sds_types.specs.declared.message.Message.{Message}
use Rattle.sds_types.specs.declared.world_event.WorldEvent.{WorldEvent}
use Rattle.sds_trade.specs.rules.Sound.{IsSound}
use Rattle.sds_history.specs.history.Acts.{State}
use Rattle.sds_history.specs.history.Documents.{doc_of_batch}
use Rattle.sds_history.specs.history.Messages.{batches_in_parts}
use Rattle.sds_history.specs.world.Worlds.{Node, World, node_at, state_in}
use Rattle.sds_worldlaws.specs.Nodes.{world_after}
use Rattle.sds_worldlaws.specs.Stepping.{AreNew}

-- the batches of a message as documents
abbrev pub message_docs : Config → State → Message → List BatchDoc
message_docs config sender message =
    map (doc_of_batch config sender) (batches_in_parts sender message.to message.parts)

-- as its sender in a world writes them
abbrev pub written_in : Config → World → Message → List BatchDoc
written_in config world message =
    option_map_or (λ (sender : Node). message_docs config (state_in config sender) message)
    (node_at world message.from) []

-- whatever happens after a message was sent, its documents stay what they are: loading the text
-- that was sent is loading the batches that stand at the message's places
abbrev pub MessagesStayWritten : Type 0
MessagesStayWritten = (config : Config) → IsSound config → (noise : List ℕ)
    (older newer : List WorldEvent) → AreNew config noise older → All (λ (message : Message).
    written_in config (world_after config noise (newer ++ older)) message
    ≡ written_in config (world_after config noise older) message)
    (world_after config noise older).messages
