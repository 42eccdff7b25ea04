-- What an act makes of a state.
use Rattle.std.specs.Prelude.{ℕ, ◌+◌, List, ◌++◌, length, None, Some, false}
use Rattle.sds_types.specs.declared.ack.Ack.{Ack}
use Rattle.sds_types.specs.declared.batch.OutBatch.{OutBatch}
use Rattle.sds_types.specs.declared.row.Change.{Change}
use Rattle.sds_first_spec.specs.declared.row.LoadRow.{LoadRow}
use Rattle.sds_types.specs.declared.row.TableRow.{TableRow}
use Rattle.sds_types.specs.declared.tx_row.TxRow.{TxRow}
use Rattle.sds_first_spec.specs.Acks.{acknowledged}
use Rattle.sds_first_spec.specs.Acts.{State}
use Rattle.sds_first_spec.specs.Batches.{batches_from}
use Rattle.sds_first_spec.specs.Calls.{write_changes, route_pieces}
use Rattle.sds_first_spec.specs.Capture.{steps_of, after_all}
use Rattle.sds_first_spec.specs.Changes.{changes_from}
use Rattle.sds_first_spec.specs.Kept.{with_writer, with_lane}
use Rattle.sds_first_spec.specs.One.{one}
use Rattle.sds_first_spec.specs.Outcome.{load_steps}

abbrev pub wrote : State → List ℕ → ℕ → List TxRow → State
wrote s writer number rows = record s {
  counts = record s.counts { acts = s.counts.acts + 1; last_tx = s.counts.last_tx + 1; last_change = s.counts.last_change + length (write_changes one s rows) };
  writers = with_writer (record { writer = writer; number = number; first = s.counts.last_change + 1; count = length (write_changes one s rows) }) s.writers;
  tables = after_all one s.tables (steps_of one rows);
  changes = s.changes ++ write_changes one s rows;
}

-- the same, by the rows and the changes that the write adds
abbrev pub accepted : State → List ℕ → ℕ → List TableRow → List Change → State
accepted s writer number rows changes = record s {
  counts = record s.counts { acts = s.counts.acts + 1; last_tx = s.counts.last_tx + 1; last_change = s.counts.last_change + length changes };
  writers = with_writer (record { writer = writer; number = number; first = s.counts.last_change + 1; count = length changes }) s.writers;
  tables = s.tables ++ rows;
  changes = s.changes ++ changes;
}

abbrev pub routed : State → State
routed s = record s {
  counts = record s.counts { acts = s.counts.acts + 1; routed = s.counts.last_change; last_batch = s.counts.last_batch + length (route_pieces one s) };
  batches = s.batches ++ batches_from (s.counts.last_batch + 1) (route_pieces one s);
}

-- the same, by the batches that the run makes, and how many they are
abbrev pub with_batches : State → ℕ → List OutBatch → State
with_batches s count batches = record s {
  counts = record s.counts { acts = s.counts.acts + 1; routed = s.counts.last_change; last_batch = s.counts.last_batch + count };
  batches = s.batches ++ batches;
}

abbrev pub loaded : State → List ℕ → ℕ → ℕ → List LoadRow → State
loaded s sender channel batch rows =
    let dones = load_steps one s.tables rows in
    let new = changes_from one s.me.group (Some sender) (s.counts.last_change + 1) (s.counts.last_tx + 1) dones in
    record s {
      counts = record s.counts { acts = s.counts.acts + 1; last_tx = s.counts.last_tx + 1; last_change = s.counts.last_change + length new };
      tables = after_all one s.tables dones;
      changes = s.changes ++ new;
      lanes = with_lane (record { peer = sender; channel = channel; highest = batch; ignored = Some false; error = None }) s.lanes;
    }

abbrev pub acked : State → List Ack → State
acked s acks = record s { counts = record s.counts { acts = s.counts.acts + 1 }; batches = acknowledged acks s.batches }
