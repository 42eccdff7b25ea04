-- The batches of a node as documents.
use Rattle.std.specs.Prelude.{ℕ, ◌==◌, List, [], Option}
use Rattle.std.specs.List.{find, filter_map, flat_map}
use Rattle.std.specs.Option.{option_map_or}
use Rattle.sds_value.specs.declared.kind.Binary.TheVariants.{Base64}
use Rattle.sds_value.specs.declared.row.DocRow.{DocRow}
use Rattle.sds_types.specs.declared.batch.OutBatch.{OutBatch}
use Rattle.sds_types.specs.declared.config.Config.{Config}
use Rattle.sds_types.specs.declared.document.BatchDoc.{BatchDoc}
use Rattle.sds_types.specs.declared.peer.KeptPeer.{KeptPeer}
use Rattle.sds_types.specs.declared.row.Change.{Change}
use Rattle.sds_types.specs.declared.way.Way.{Way}
use Rattle.sds_trade.specs.rules.Transforms.{extracted_rows}
use Rattle.sds_history.specs.history.Acts.{State}
use Rattle.sds_history.specs.history.Lanes.{channel_name}
use Rattle.sds_history.specs.history.Peers.{kept_peer}

-- the group of a peer
abbrev pub group_of_peer : State → List ℕ → List ℕ
group_of_peer state peer =
    option_map_or (λ (kept : KeptPeer). kept.peer.group) (kept_peer state.peers peer) []

-- the ways from a node to a peer, and from a peer to it
abbrev pub way_to : State → List ℕ → Way
way_to state peer = record {
  source = state.me.id;
  source_group = state.me.group;
  target = peer;
  target_group = group_of_peer state peer;
}

abbrev pub way_from : State → List ℕ → Way
way_from state peer = record {
  source = peer;
  source_group = group_of_peer state peer;
  target = state.me.id;
  target_group = state.me.group;
}

-- the change of a number
abbrev pub change_of_number : State → ℕ → Option Change
change_of_number state number =
    find (λ (change : Change). change.id == number) state.changes

-- the rows of a batch: each change by the transforms of the way
abbrev pub batch_rows : Config → State → OutBatch → List DocRow
batch_rows config state batch =
    flat_map (extracted_rows config (way_to state batch.peer))
    (filter_map (change_of_number state) batch.changes)

-- a batch as a document
abbrev pub doc_of_batch : Config → State → OutBatch → BatchDoc
doc_of_batch config state batch = record {
  channel = channel_name config batch.channel;
  batch = batch.id;
  binary = Base64;
  rows = batch_rows config state batch;
}
