-- Laws of messages that go as text: what was sent comes back.
use Rattle.std.specs.Prelude.{◌≡◌, ◌<◌, ℕ, List, length, map}
use Rattle.std.specs.List.{All}
use Rattle.sds_types.specs.declared.batch.OutBatch.{OutBatch}
use Rattle.sds_types.specs.declared.config.Config.{Config}
use Rattle.sds_types.specs.declared.message.MessagePart.{MessagePart}
use Rattle.sds_batchtext.specs.Documents.{document_of}
use Rattle.sds_batchtext.specs.Writing.{text_of}
use Rattle.sds_trade.specs.rules.Sound.{IsSound}
use Rattle.sds_history.specs.history.Acts.{State}
use Rattle.sds_history.specs.history.Documents.{doc_of_batch}
use Rattle.sds_history.specs.history.Messages.{batches_in_parts}
use Rattle.sds_history.specs.history.SoundStates.{IsSoundState}
use Rattle.sds_doclaws.specs.Writable.{HasFewKeys, IsOfCharacters}

-- the batches of a message are those of its text
abbrev pub MessagesAreReadBack : Type 0
MessagesAreReadBack = (config : Config) (state : State) (to : List ℕ) (parts : List MessagePart)
    → IsSound config → All IsOfCharacters config.transforms
    → All (HasFewKeys config) config.transforms → IsSoundState config state
    → (document_of (text_of state.me.id
    (map (doc_of_batch config state) (batches_in_parts state to parts)))).batches
    ≡ map (doc_of_batch config state) (batches_in_parts state to parts)

-- their channels are channels of the configuration
abbrev pub MessagesHaveChannels : Type 0
MessagesHaveChannels = (config : Config) (state : State) (to : List ℕ) (parts : List MessagePart)
    → IsSoundState config state
    → All (λ (batch : OutBatch). batch.channel < length config.channels)
    (batches_in_parts state to parts)
