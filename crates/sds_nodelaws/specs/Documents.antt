-- The document of a batch is the same whenever it is asked for.
use Rattle.std.specs.Prelude.{◌≡◌, ℕ, List, ◌++◌, Some, slice_get}
use Rattle.sds_value.specs.declared.row.Peer.{Peer}
use Rattle.sds_types.specs.declared.batch.OutBatch.{OutBatch}
use Rattle.sds_types.specs.declared.config.Config.{Config}
use Rattle.sds_trade.specs.rules.Sound.{IsSound}
use Rattle.sds_history.specs.history.Acts.{State}
use Rattle.sds_history.specs.history.Documents.{doc_of_batch}
use Rattle.sds_history.specs.history.States.{state_of}
use Rattle.sds_nodelaws.specs.Calls.{Call, begun, called_all}

-- the batch at a place is there later, with the same document
pub record BatchStays (config : Config) (now before : State) (place : ℕ) (batch : OutBatch)
    : Type 0 where
  pub later : OutBatch
  pub there : slice_get now.batches place ≡ Some later
  pub document : doc_of_batch config now later ≡ doc_of_batch config before batch

-- so that a message that was written is what would be written of its batches later
abbrev pub DocumentsStay : Type 0
DocumentsStay = (config : Config) → IsSound config → (me : Peer) (older newer : List Call)
    (place : ℕ) (batch : OutBatch)
    → slice_get (state_of config (called_all config (begun me) older)).batches place ≡ Some batch
    → BatchStays config (state_of config (called_all config (begun me) (newer ++ older)))
    (state_of config (called_all config (begun me) older)) place batch
