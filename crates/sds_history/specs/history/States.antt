-- The state that a history leaves, and that of a new node.
use Rattle.std.specs.Prelude.{◌+◌, List, [], ◌++◌, ◌∷◌, length}
use Rattle.sds_value.specs.declared.row.Peer.{Peer}
use Rattle.sds_types.specs.declared.config.Config.{Config}
use Rattle.sds_types.specs.declared.counts.Counts.{Counts}
use Rattle.sds_history.specs.history.Acts.{Act, State, History}
use Rattle.sds_history.specs.history.Changes.{changes_after, runs_after}
use Rattle.sds_history.specs.history.Lanes.{lanes_after}
use Rattle.sds_history.specs.history.Made.{made_after}
use Rattle.sds_history.specs.history.Openings.{openings_after}
use Rattle.sds_history.specs.history.Peers.{peers_after}
use Rattle.sds_history.specs.history.Runs.{Run, last_change_after, last_tx_after, mark_after, tables_after}
use Rattle.sds_history.specs.history.Standings.{acknowledged}
use Rattle.sds_history.specs.history.Writers.{writers_after}

-- the numbers of the last act, change, batch and transaction, and of the last routed change
abbrev pub counts_after : Config → State → List Run → Counts
counts_after config opening runs = record {
  acts = opening.counts.acts + length runs;
  last_change = last_change_after config opening runs;
  last_batch = opening.counts.last_batch + length (made_after config opening runs);
  last_tx = last_tx_after opening runs;
  routed = mark_after config opening runs;
}

abbrev pub state_by : Config → State → List Act → List Run → State
state_by config opening acts runs = record {
  me = opening.me;
  counts = counts_after config opening runs;
  peers = peers_after opening.peers acts;
  openings = openings_after opening.openings acts;
  writers = writers_after config opening runs;
  tables = tables_after opening runs;
  changes = changes_after config opening runs;
  batches = acknowledged (opening.batches ++ made_after config opening runs) acts;
  lanes = lanes_after config opening runs;
}

-- the state that a history leaves
abbrev pub state_of : Config → History → State
state_of config history = state_by config history.opening history.acts
    (runs_after config history.opening history.acts)

-- the state after one more act
abbrev pub state_after : Config → State → Act → State
state_after config state act = state_of config (record { opening = state; acts = act ∷ [] })

-- a node that has made no act
abbrev pub zero_counts : Counts
zero_counts = record { acts = 0; last_change = 0; last_batch = 0; last_tx = 0; routed = 0 }

abbrev pub new_state : Peer → State
new_state me = record {
  me = me;
  counts = zero_counts;
  peers = [];
  openings = [];
  writers = [];
  tables = [];
  changes = [];
  batches = [];
  lanes = [];
}
