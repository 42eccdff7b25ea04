-- What a node's lists mean: a state of its history.
use Rattle.sds_history.specs.history.Acts.{State}
use Rattle.sds_image.specs.declared.state.State as kept

abbrev pub meaning_of : kept.State → State
meaning_of state = record {
  me = state.me;
  counts = state.counts;
  peers = state.peers;
  openings = state.openings;
  writers = state.writers;
  tables = state.tables.rows;
  changes = state.changes;
  batches = state.batches;
  lanes = state.lanes;
}
