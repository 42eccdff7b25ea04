-- The batches that routing runs made, by number, before any is acknowledged.
use Rattle.std.specs.Prelude.{ℕ, ◌+◌, List, [], ◌∷◌, ◌++◌, length, map, slice_get}
use Rattle.std.specs.Option.{option_map_or}
use Rattle.sds_value.specs.declared.row.Peer.{Peer}
use Rattle.sds_types.specs.declared.batch.NewBatch.{NewBatch}
use Rattle.sds_types.specs.declared.batch.OutBatch.{OutBatch}
use Rattle.sds_types.specs.declared.batch.Standing.TheVariants.{New}
use Rattle.sds_types.specs.declared.config.Config.{Config}
use Rattle.sds_types.specs.declared.peer.KeptPeer.{KeptPeer}
use Rattle.sds_trade.specs.rules.Batches.{batches_of, routed_changes}
use Rattle.sds_history.specs.history.Acts.{Act, State}
use Rattle.sds_history.specs.history.Acts.Act.{Routed}
use Rattle.sds_history.specs.history.Changes.{unrouted_after}
use Rattle.sds_history.specs.history.Peers.{peers_after}
use Rattle.sds_history.specs.history.Runs.{Run, tables_after}

-- the peers at the time of a run
abbrev pub peers_at : State → List Run → List Peer
peers_at opening runs = map (λ (kept : KeptPeer). kept.peer)
    (peers_after opening.peers (map (λ (run : Run). run.act) runs))

-- a batch goes to the peer at its place
abbrev pub out_batch : List Peer → NewBatch → OutBatch
out_batch peers batch = record {
  id = batch.id;
  peer = option_map_or (λ (peer : Peer). peer.id) (slice_get peers batch.peer) [];
  channel = batch.channel;
  standing = New;
  changes = batch.changes;
}

-- what a routing run makes of the changes that wait, by the tables and the peers that stand
abbrev pub next_batches : Config → State → ℕ → List Run → List OutBatch
next_batches config opening first runs = map (out_batch (peers_at opening runs))
    (batches_of config first (routed_changes config opening.me (tables_after opening runs)
    (peers_at opening runs) (unrouted_after config opening runs)))

abbrev pub batches_by : Config → State → Act → List Run → List OutBatch → List OutBatch
batches_by config opening Routed older made =
    made ++ next_batches config opening (opening.counts.last_batch + length made + 1) older
batches_by config opening act older made = made

-- the batches made since the opening
abbrev pub made_after : Config → State → List Run → List OutBatch
made_after config opening [] = []
made_after config opening (run ∷ older) =
    batches_by config opening run.act older (made_after config opening older)
