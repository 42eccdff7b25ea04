-- What an act that ran rows makes of a state, by the steps that it made.
use Rattle.std.specs.Prelude.{ℕ, ◌+◌, List, [], ◌∷◌, ◌++◌, length, map, Option, None, Some}
use Rattle.std.specs.List.{enumerate_from, filter_map}
use Rattle.sds_outside.specs.declared.keeping.Edit.{Edit}
use Rattle.sds_types.specs.declared.config.Config.{Config}
use Rattle.sds_types.specs.declared.counts.Counts.{Counts}
use Rattle.sds_types.specs.declared.counts.WriterLast.{WriterLast}
use Rattle.sds_types.specs.declared.lane.LaneIn.{LaneIn}
use Rattle.sds_types.specs.declared.row.Change.{Change}
use Rattle.sds_types.specs.declared.row.TableRow.{TableRow}
use Rattle.sds_types.specs.declared.write_answer.Written.{Written}
use Rattle.sds_types.specs.declared.write_answer.Written.TheVariants as answer
use Rattle.sds_trade.specs.rules.Captured.{Done, change_of, changes_of, numbered_change}
use Rattle.sds_history.specs.history.Acts.{State}
use Rattle.sds_history.specs.history.Counters.{is_past}
use Rattle.sds_history.specs.history.Lanes.{lane_key}
use Rattle.sds_history.specs.history.Orders.{with_item}
use Rattle.sds_history.specs.history.Records.{Record, count_record, lane_record, writer_record}
use Rattle.sds_history.specs.history.RowRecords.{change_record}
use Rattle.sds_history.specs.history.Writers.{writer_key}
use Rattle.sds_records.specs.Parts.{put_edit}
use Rattle.sds_imagelaws.specs.Edits.{puts_of, row_edits}
use Rattle.sds_runs.specs.Keeping.{Keepable}

-- a state with other rows in its tables
abbrev pub with_rows : State → List TableRow → State
with_rows state rows = record state { tables = rows }

-- the changes that steps become, where these changes were made of the steps before them
abbrev pub changes_from : Config → State → Option (List ℕ) → List Change → List Done → List Change
changes_from config state source made dones = made
    ++ map numbered_change (enumerate_from (state.counts.last_change + 1 + length made)
    (filter_map (change_of config state.me.group (state.counts.last_tx + 1) source) dones))

-- the changes that the steps of the next act become. `source` is the node whose batch brought them
abbrev pub next_changes : Config → State → Option (List ℕ) → List Done → List Change
next_changes config state source dones = changes_of config state.me.group
    (state.counts.last_change + 1) (state.counts.last_tx + 1) source dones

-- the counters after an act that ran rows and captured so many changes, and after an error
abbrev pub ran_counts : Counts → ℕ → Counts
ran_counts counts captured = record counts {
  acts = counts.acts + 1;
  last_change = counts.last_change + captured;
  last_tx = counts.last_tx + 1;
}

abbrev pub erred_counts : Counts → Counts
erred_counts counts = record counts { acts = counts.acts + 1 }

-- the edits of steps and changes, of what is kept of the writer or the lane, and of the counters
abbrev pub ran_edits : Config → List Done → List Change → Record → Counts → List Edit
ran_edits config dones changes kept counts = (row_edits config dones
    ++ puts_of (map (change_record config) changes))
    ++ put_edit kept ∷ (put_edit (count_record counts) ∷ [])

-- WRITE
abbrev pub written_last : Config → State → List ℕ → ℕ → List Done → WriterLast
written_last config state writer number dones = record {
  writer = writer;
  number = number;
  first = state.counts.last_change + 1;
  count = length (next_changes config state None dones);
}

abbrev pub written_counts : Config → State → List Done → Counts
written_counts config state dones =
    ran_counts state.counts (length (next_changes config state None dones))

abbrev pub written_edits : Config → State → List ℕ → ℕ → List Done → List Edit
written_edits config state writer number dones = ran_edits config dones
    (next_changes config state None dones)
    (writer_record (written_last config state writer number dones))
    (written_counts config state dones)

abbrev pub state_written : Config → State → List ℕ → ℕ → List Done → State
state_written config state writer number dones = record state {
  counts = written_counts config state dones;
  writers = with_item writer_key (written_last config state writer number dones) state.writers;
  changes = state.changes ++ next_changes config state None dones;
}

abbrev pub write_kept : Config → State → List ℕ → ℕ → List Done → Keepable
write_kept config state writer number dones = record {
  past = is_past (written_counts config state dones);
  edits = written_edits config state writer number dones;
  state = state_written config state writer number dones;
}

abbrev pub written : Config → State → List Done → Written
written config state dones = answer.Done (state.counts.last_change + 1)
    (length (next_changes config state None dones))

-- LOAD
abbrev pub loaded_counts : Config → State → LaneIn → List Done → Counts
loaded_counts config state lane dones =
    ran_counts state.counts (length (next_changes config state (Some lane.peer) dones))

abbrev pub loaded_edits : Config → State → LaneIn → List Done → List Edit
loaded_edits config state lane dones = ran_edits config dones
    (next_changes config state (Some lane.peer) dones) (lane_record config lane)
    (loaded_counts config state lane dones)

abbrev pub state_loaded : Config → State → LaneIn → List Done → State
state_loaded config state lane dones = record state {
  counts = loaded_counts config state lane dones;
  changes = state.changes ++ next_changes config state (Some lane.peer) dones;
  lanes = with_item (lane_key config) lane state.lanes;
}

abbrev pub load_kept : Config → State → LaneIn → List Done → Keepable
load_kept config state lane dones = record {
  past = is_past (loaded_counts config state lane dones);
  edits = loaded_edits config state lane dones;
  state = state_loaded config state lane dones;
}

-- a batch that broke a rule
abbrev pub erred_edits : Config → Counts → LaneIn → List Edit
erred_edits config counts lane = put_edit (lane_record config lane)
    ∷ (put_edit (count_record (erred_counts counts)) ∷ [])

abbrev pub state_erred : Config → State → LaneIn → State
state_erred config state lane = record state {
  counts = erred_counts state.counts;
  lanes = with_item (lane_key config) lane state.lanes;
}

abbrev pub error_kept : Config → State → LaneIn → Keepable
error_kept config state lane = record {
  past = is_past (erred_counts state.counts);
  edits = erred_edits config state.counts lane;
  state = state_erred config state lane;
}
