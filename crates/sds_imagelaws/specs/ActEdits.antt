-- The edits of each act by the state before it alone, as a node makes them.
use Rattle.std.specs.Prelude.{◌≡◌, ℕ, ◌+◌, List, [], ◌∷◌, ◌++◌, length, map, None, Some}
use Rattle.sds_outside.specs.declared.keeping.Edit.{Edit}
use Rattle.sds_types.specs.declared.config.Config.{Config}
use Rattle.sds_types.specs.declared.counts.WriterLast.{WriterLast}
use Rattle.sds_types.specs.declared.lane.LaneError.{LaneError}
use Rattle.sds_types.specs.declared.lane.LaneIn.{LaneIn}
use Rattle.sds_types.specs.declared.prepared.Prepared.{Prepared}
use Rattle.sds_types.specs.declared.row.Change.{Change}
use Rattle.sds_types.specs.declared.tx_row.TxRow.{TxRow}
use Rattle.sds_history.specs.history.Acts.{Act, State}
use Rattle.sds_history.specs.history.Acts.Act.{Wrote, Routed, Loaded, Erred}
use Rattle.sds_history.specs.history.Changes.{run_after}
use Rattle.sds_history.specs.history.Lanes.{is_ignored, lane_of}
use Rattle.sds_history.specs.history.Made.{next_batches}
use Rattle.sds_history.specs.history.Records.{batch_record, count_record, lane_record, writer_record}
use Rattle.sds_history.specs.history.RowRecords.{change_record}
use Rattle.sds_history.specs.history.Runs.{captured_in}
use Rattle.sds_history.specs.history.States.{state_after}
use Rattle.sds_records.specs.Parts.{put_edit}
use Rattle.sds_imagelaws.specs.Edits.{edits_of, puts_of, row_edits, made_steps}

-- the edit of the counters, which is an act's last
abbrev pub count_edit : Config → State → Act → Edit
count_edit config state act = put_edit (count_record (state_after config state act).counts)

-- the changes that an act captures, and the edits of its rows and of these changes
abbrev pub captured_by : Config → State → Act → List Change
captured_by config state act = captured_in config state (state.counts.last_change + 1)
    (state.counts.last_tx + 1) (run_after config state [] act)

abbrev pub run_edits : Config → State → Act → List Edit
run_edits config state act = row_edits config (made_steps config state act)
    ++ puts_of (map (change_record config) (captured_by config state act))

-- WRITE: rows, changes, and what is kept of the writer
abbrev pub kept_last : Config → State → List ℕ → ℕ → List TxRow → WriterLast
kept_last config state writer number rows = record {
  writer = writer;
  number = number;
  first = state.counts.last_change + 1;
  count = length (captured_by config state (Wrote writer number rows));
}

abbrev pub EditsOfWrites : Type 0
EditsOfWrites = (config : Config) (state : State) (writer : List ℕ) (number : ℕ)
    (rows : List TxRow)
    → edits_of config state (Wrote writer number rows)
    ≡ run_edits config state (Wrote writer number rows)
    ++ put_edit (writer_record (kept_last config state writer number rows))
    ∷ (count_edit config state (Wrote writer number rows) ∷ [])

-- LOAD: rows, changes, and the lane
abbrev pub loaded_lane : Config → State → ℕ → Prepared → LaneIn
loaded_lane config state channel batch = record {
  peer = batch.from;
  channel = channel;
  highest = batch.batch;
  ignored = Some (is_ignored (run_after config state [] (Loaded channel batch)).end);
  error = None;
}

abbrev pub EditsOfLoads : Type 0
EditsOfLoads = (config : Config) (state : State) (channel : ℕ) (batch : Prepared)
    → edits_of config state (Loaded channel batch)
    ≡ run_edits config state (Loaded channel batch)
    ++ put_edit (lane_record config (loaded_lane config state channel batch))
    ∷ (count_edit config state (Loaded channel batch) ∷ [])

-- an error: the lane that has it
abbrev pub EditsOfErrors : Type 0
EditsOfErrors = (config : Config) (state : State) (from : List ℕ) (channel : ℕ)
    (error : LaneError)
    → edits_of config state (Erred from channel error)
    ≡ put_edit (lane_record config
    (record (lane_of state.lanes from channel) { error = Some error }))
    ∷ (count_edit config state (Erred from channel error) ∷ [])

-- ROUTE: the new batches
abbrev pub EditsOfRoutes : Type 0
EditsOfRoutes = (config : Config) (state : State)
    → edits_of config state Routed
    ≡ puts_of (map (batch_record config)
    (next_batches config state (state.counts.last_batch + 1) []))
    ++ count_edit config state Routed ∷ []
