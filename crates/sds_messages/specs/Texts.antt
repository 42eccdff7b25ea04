-- The text of a node's message that goes next to a peer.
use Rattle.std.specs.Prelude.{ℕ, IsTrue, List, map}
use Rattle.std.specs.List.{All, flat_map}
use Rattle.sds_types.specs.declared.batch.OutBatch.{OutBatch}
use Rattle.sds_types.specs.declared.config.Config.{Config}
use Rattle.sds_types.specs.declared.message.MessagePart.{MessagePart}
use Rattle.sds_batchtext.specs.Writable.{is_writable}
use Rattle.sds_batchtext.specs.Writing.{batch_text, text_of}
use Rattle.sds_history.specs.history.Acts.{State}
use Rattle.sds_history.specs.history.Documents.{doc_of_batch}
use Rattle.sds_history.specs.history.Messages.{batches_in_part, batches_in_parts, parts_of}

-- the message that goes next to a peer, of certain channels or of all where none is named: one
-- document of the node. It is the text (`message_text` of sds_screen) of the message to the peer
-- whose parts are those that go next
abbrev pub written_message : Config → State → List ℕ → List ℕ → List ℕ
written_message config state to channels = text_of state.me.id
    (map (doc_of_batch config state) (batches_in_parts state to (parts_of config state to channels)))

-- each of a node's batches has a written form
abbrev pub AreWritable : Config → State → Type 0
AreWritable config state =
    All (λ (batch : OutBatch). IsTrue (is_writable (doc_of_batch config state batch))) state.batches

-- the texts of batches, of those of a part, and of those of parts
abbrev pub batches_text : Config → State → List OutBatch → List ℕ
batches_text config state batches =
    flat_map (λ (batch : OutBatch). batch_text (doc_of_batch config state batch)) batches

abbrev pub part_text : Config → State → List ℕ → MessagePart → List ℕ
part_text config state to part = batches_text config state (batches_in_part state to part)

abbrev pub parts_text : Config → State → List ℕ → List MessagePart → List ℕ
parts_text config state to parts = batches_text config state (batches_in_parts state to parts)
