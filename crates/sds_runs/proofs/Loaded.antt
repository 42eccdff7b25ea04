-- A load by the steps that it made, and the error of a lane: their edits, and the state after them.
use Rattle.std.proofs.Common.{◌≡◌, ℕ, ◌+◌, ◌-◌, List, [], ◌∷◌, ◌++◌, length, map, Some, refl, ap, ◌∙◌, append-nil, arith}
use Rattle.std.proofs.Math.Nat.{add-zero}
use Rattle.sds_outside.specs.declared.keeping.Edit.{Edit}
use Rattle.sds_types.specs.declared.batch.OutBatch.{OutBatch}
use Rattle.sds_types.specs.declared.config.Config.{Config}
use Rattle.sds_types.specs.declared.counts.Counts.{Counts}
use Rattle.sds_types.specs.declared.lane.LaneError.{LaneError}
use Rattle.sds_types.specs.declared.lane.LaneIn.{LaneIn}
use Rattle.sds_types.specs.declared.prepared.Prepared.{Prepared}
use Rattle.sds_types.specs.declared.row.Change.{Change}
use Rattle.sds_types.specs.declared.row.TableRow.{TableRow}
use Rattle.sds_trade.specs.rules.Captured.{Done, changes_of}
use Rattle.sds_trade.specs.rules.Outcomes.{outcome_of_batch}
use Rattle.sds_trade.specs.rules.Runs.{RunEnd}
use Rattle.sds_history.specs.history.Acts.{Act, State}
use Rattle.sds_history.specs.history.Acts.Act.{Erred, Loaded}
use Rattle.sds_history.specs.history.Changes.{run_after}
use Rattle.sds_history.specs.history.Lanes.{is_ignored, lane_key, lane_of}
use Rattle.sds_history.specs.history.Orders.{with_item}
use Rattle.sds_history.specs.history.Records.{count_record, lane_record}
use Rattle.sds_history.specs.history.RowRecords.{change_record}
use Rattle.sds_history.specs.history.Runs.{Run, captured_in, dones_of, rows_after_run}
use Rattle.sds_history.specs.history.Standings.{with_standing}
use Rattle.sds_history.specs.history.States.{state_after, state_by}
use Rattle.sds_history.specs.history.Writes.{waiting_in}
use Rattle.sds_records.specs.Parts.{put_edit}
use Rattle.sds_imagelaws.specs.Edits.{edits_of, puts_of, row_edits}
use Rattle.sds_imagelaws.proofs.ActEdits.{edits_of_errors, edits_of_loads}
use Rattle.sds_imagelaws.proofs.BatchSteps.{quiet_all}
use Rattle.sds_runs.proofs.Counts.{captured_count}
use Rattle.sds_runs.specs.Lanes.{loaded_lane}
use Rattle.sds_runs.specs.Made.{erred_edits, loaded_edits, state_erred, state_loaded, with_rows}

module _ (config : Config) (state : State) (channel : ℕ) (batch : Prepared) (end : RunEnd)
    (is : outcome_of_batch config state.me.group (waiting_in state) state.tables batch ≡ end) where
  abbrev act : Act
  act = Loaded channel batch

  abbrev ran : Run
  ran = record { act = act; end = Some end }

  abbrev dones : List Done
  dones = dones_of (Some end)

  abbrev rows : List TableRow
  rows = rows_after_run state.tables (Some end)

  abbrev lane : LaneIn
  lane = loaded_lane channel batch (is_ignored (Some end))

  run_is : run_after config state [] act ≡ ran
  run_is =
      ap (λ (e : RunEnd). record { act = act; end = Some e })
      (ap (λ n. outcome_of_batch config state.me.group (n - state.counts.routed) state.tables batch) (add-zero state.counts.last_change) ∙ is)

  abbrev changes_at : ℕ → List Change
  changes_at first = changes_of config state.me.group first (state.counts.last_tx + 1) (Some batch.from) dones

  -- the state, where its numbers and its batches are told
  abbrev stands : ℕ → ℕ → ℕ → ℕ → ℕ → List OutBatch → State
  stands acts last_change last_batch last_tx first batches = record state {
    counts = record {
      acts = acts;
      last_change = last_change;
      last_batch = last_batch;
      last_tx = last_tx;
      routed = state.counts.routed;
    };
    tables = rows;
    changes = state.changes ++ changes_at first;
    batches = batches;
    lanes = with_item (lane_key config) lane state.lanes;
  }

  same_stands : (acts acts' change change' batch batch' first first' : ℕ) (batches batches' : List OutBatch)
      → acts ≡ acts' → change ≡ change' → batch ≡ batch' → first ≡ first' → batches ≡ batches'
      → stands acts change batch (state.counts.last_tx + 1) first batches ≡ stands acts' change' batch' (state.counts.last_tx + 1) first' batches'
  same_stands acts acts' change change' batch batch' first first' batches batches' a b c d e = cc

  abbrev captured : ℕ
  captured = length (changes_at (state.counts.last_change + 1))

  pub state_is_loaded : state_after config state act ≡ state_loaded config (with_rows state rows) lane dones
  state_is_loaded =
      let plain = length (changes_of config state.me.group 0 0 (Some batch.from) dones) in
      let batches = map (with_standing (state.batches ++ []) (act ∷ [])) (state.batches ++ []) in
      ap (λ (r : Run). state_by config state (act ∷ []) (r ∷ [])) run_is
      ∙ same_stands (state.counts.acts + length (ran ∷ [])) (state.counts.acts + 1)
      (state.counts.last_change + (0 + plain)) (state.counts.last_change + captured)
      (state.counts.last_batch + 0) state.counts.last_batch
      (state.counts.last_change + 0 + 1) (state.counts.last_change + 1)
      batches state.batches
      refl (more state.counts.last_change plain captured
      (captured_count config state.me.group (state.counts.last_change + 1) (state.counts.last_tx + 1) (Some batch.from) dones))
      (add-zero state.counts.last_batch) (ap (λ n. n + 1) (add-zero state.counts.last_change))
      (quiet_all (state.batches ++ []) (act ∷ []) (state.batches ++ []) (λ peer. refl) ∙ append-nil state.batches)
    where
      more : (a b c : ℕ) → b ≡ c → a + (0 + b) ≡ a + c
      more a b c is = omega (arith, is)

  -- the edits, where the run and the counters after it are told
  abbrev edits_by : Run → Counts → List Edit
  edits_by run counts =
      (row_edits config (dones_of run.end)
      ++ puts_of (map (change_record config) (captured_in config state (state.counts.last_change + 1) (state.counts.last_tx + 1) run)))
      ++ put_edit (lane_record config (loaded_lane channel batch (is_ignored run.end))) ∷ (put_edit (count_record counts) ∷ [])

  pub edits_are_loaded : edits_of config state act ≡ loaded_edits config (with_rows state rows) lane dones
  edits_are_loaded =
      edits_of_loads config state channel batch
      ∙ (ap (λ (r : Run). edits_by r (state_after config state act).counts) run_is
      ∙ ap (λ (s : State). edits_by ran s.counts) state_is_loaded)

module _ (config : Config) (state : State) (from : List ℕ) (channel : ℕ) (error : LaneError) where
  abbrev erring : Act
  erring = Erred from channel error

  abbrev erred : LaneIn
  erred = record (lane_of state.lanes from channel) { error = Some error }

  abbrev stands_erred : ℕ → ℕ → ℕ → List Change → List OutBatch → State
  stands_erred last last_batch last_tx changes batches = record state {
    counts = record state.counts {
      acts = state.counts.acts + 1;
      last_change = last;
      last_batch = last_batch;
      last_tx = last_tx;
    };
    changes = changes;
    batches = batches;
    lanes = with_item (lane_key config) erred state.lanes;
  }

  pub state_is_erred : state_after config state erring ≡ state_erred config state erred
  state_is_erred =
      let batches = map (with_standing (state.batches ++ []) (erring ∷ [])) (state.batches ++ []) in
      ap (λ n. stands_erred n (state.counts.last_batch + 0) (state.counts.last_tx + 0) (state.changes ++ []) batches) (add-zero state.counts.last_change)
      ∙ (ap (λ n. stands_erred state.counts.last_change n (state.counts.last_tx + 0) (state.changes ++ []) batches) (add-zero state.counts.last_batch)
      ∙ (ap (λ n. stands_erred state.counts.last_change state.counts.last_batch n (state.changes ++ []) batches) (add-zero state.counts.last_tx)
      ∙ (ap (λ changes. stands_erred state.counts.last_change state.counts.last_batch state.counts.last_tx changes batches) (append-nil state.changes)
      ∙ ap (stands_erred state.counts.last_change state.counts.last_batch state.counts.last_tx state.changes)
      (quiet_all (state.batches ++ []) (erring ∷ []) (state.batches ++ []) (λ peer. refl) ∙ append-nil state.batches))))

  pub edits_are_erred : edits_of config state erring ≡ erred_edits config state.counts erred
  edits_are_erred =
      edits_of_errors config state from channel error
      ∙ ap (λ (s : State). put_edit (lane_record config erred) ∷ (put_edit (count_record s.counts) ∷ [])) state_is_erred
