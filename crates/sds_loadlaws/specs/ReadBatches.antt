-- Laws of batches that are read from documents: what whoever loads them asks his node with.
use Rattle.std.specs.Prelude.{◌≡◌, ◌<◌, ◌≤◌, ◌^◌, ℕ, IsTrue, List, length}
use Rattle.sds_value.specs.Names.{is_name_text}
use Rattle.sds_types.specs.Limits.{most_count}
use Rattle.sds_types.specs.declared.config.Config.{Config}
use Rattle.sds_types.specs.declared.document.BatchDoc.{BatchDoc}
use Rattle.sds_types.specs.declared.way.Way.{Way}
use Rattle.sds_batchtext.specs.Writable.{is_batch_text}
use Rattle.sds_trade.specs.rules.Outcomes.{prepared_batch}
use Rattle.sds_history.specs.history.Acts.{State}
use Rattle.sds_nodelaws.specs.Asked.{IsAsked, is_spelt_body}
use Rattle.sds_nodelaws.specs.Calls.Call.{Load}
use Rattle.sds_imagelaws.specs.Widths.{IsHeldBody, IsHeldCall}
use Rattle.sds_loadlaws.specs.Spelt.{is_spelt_config, is_spelt_way}

-- where nodes are named by names, as those are that a node keeps as peers, a way's ids are of
-- characters
abbrev pub NamedWaysAreSpelt : Type 0
NamedWaysAreSpelt = (way : Way) → IsTrue (is_name_text way.source)
    → IsTrue (is_name_text way.target) → IsTrue (is_spelt_way way)

-- the texts of a batch that is read are of characters, where its document's are and those are that
-- transforms put in
abbrev pub ReadBatchesAreSpelt : Type 0
ReadBatchesAreSpelt = (config : Config) (way : Way) (document : BatchDoc)
    → IsTrue (is_spelt_config config) → IsTrue (is_spelt_way way)
    → IsTrue (is_batch_text document)
    → IsTrue (is_spelt_body (prepared_batch config way document).body)

-- the numbers of its rows have 32 bits
abbrev pub ReadBatchesAreHeld : Type 0
ReadBatchesAreHeld = (config : Config) (way : Way) (document : BatchDoc)
    → length document.rows < 2 ^ 32
    → IsHeldBody (prepared_batch config way document).body

-- a document whose batch a node may be asked to load
pub record IsLoadable (document : BatchDoc) : Type 0 where
  pub first : 1 ≤ document.batch
  pub last : document.batch ≤ most_count
  pub few : length document.rows < 2 ^ 32
  pub spelt : IsTrue (is_batch_text document)

-- so its load is asked rightly, whatever the node has
abbrev pub ReadBatchesAreAsked : Type 0
ReadBatchesAreAsked = (config : Config) (state : State) (from : List ℕ) (way : Way)
    (document : BatchDoc) → IsTrue (is_spelt_config config) → IsTrue (is_spelt_way way)
    → way.source ≡ from → IsLoadable document
    → IsAsked config state (Load from (prepared_batch config way document))
    × IsHeldCall (Load from (prepared_batch config way document))
