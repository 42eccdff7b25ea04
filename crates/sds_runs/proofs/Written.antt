-- A write by the steps that it made: its edits, and the state after it.
use Rattle.std.proofs.Common.{◌≡◌, ℕ, ◌+◌, ◌-◌, List, [], ◌∷◌, ◌++◌, length, map, None, Some, refl, sym, ap, ◌∙◌, append-nil, arith}
use Rattle.std.proofs.Math.Nat.{add-zero}
use Rattle.sds_outside.specs.declared.keeping.Edit.{Edit}
use Rattle.sds_types.specs.declared.batch.OutBatch.{OutBatch}
use Rattle.sds_types.specs.declared.config.Config.{Config}
use Rattle.sds_types.specs.declared.counts.Counts.{Counts}
use Rattle.sds_types.specs.declared.counts.WriterLast.{WriterLast}
use Rattle.sds_types.specs.declared.row.TableRow.{TableRow}
use Rattle.sds_types.specs.declared.tx_row.TxRow.{TxRow}
use Rattle.sds_types.specs.declared.write_answer.Written.{Written}
use Rattle.sds_types.specs.declared.write_answer.Written.TheVariants as answer
use Rattle.sds_trade.specs.rules.Captured.{Done, changes_of}
use Rattle.sds_trade.specs.rules.OwnWrites.{outcome_of_write}
use Rattle.sds_trade.specs.rules.Runs.{RunEnd}
use Rattle.sds_trade.specs.rules.Runs.RunEnd.{Made}
use Rattle.sds_history.specs.history.Acts.{Act, State}
use Rattle.sds_history.specs.history.Acts.Act.{Wrote}
use Rattle.sds_history.specs.history.Changes.{run_after}
use Rattle.sds_history.specs.history.Orders.{with_item}
use Rattle.sds_history.specs.history.Records.{count_record, writer_record}
use Rattle.sds_history.specs.history.RowRecords.{change_record}
use Rattle.sds_history.specs.history.Runs.{Run, captured_in, dones_of}
use Rattle.sds_history.specs.history.Standings.{with_standing}
use Rattle.sds_history.specs.history.States.{state_after, state_by}
use Rattle.sds_history.specs.history.Writers.{writer_key}
use Rattle.sds_history.specs.history.Writes.{done_answer, waiting_in}
use Rattle.sds_records.specs.Parts.{put_edit}
use Rattle.sds_imagelaws.specs.Edits.{edits_of, puts_of, row_edits}
use Rattle.sds_imagelaws.proofs.ActEdits.{edits_of_writes}
use Rattle.sds_imagelaws.proofs.BatchSteps.{quiet_all}
use Rattle.sds_runs.proofs.Counts.{captured_count}
use Rattle.sds_runs.specs.Made.{state_written, with_rows, written, written_edits}

module _ (config : Config) (state : State) (writer : List ℕ) (number : ℕ) (tx : List TxRow) (dones : List Done) (rows : List TableRow)
    (is : outcome_of_write config state.me.group (waiting_in state) state.tables tx ≡ Made dones rows) where
  abbrev act : Act
  act = Wrote writer number tx

  abbrev ran : Run
  ran = record { act = act; end = Some (Made dones rows) }

  run_is : run_after config state [] act ≡ ran
  run_is =
      ap (λ (end : RunEnd). record { act = act; end = Some end })
      (ap (λ n. outcome_of_write config state.me.group (n - state.counts.routed) state.tables tx) (add-zero state.counts.last_change) ∙ is)

  -- the state, where its numbers and its batches are told
  abbrev stands : ℕ → ℕ → ℕ → ℕ → ℕ → ℕ → List OutBatch → State
  stands acts last_change last_batch last_tx first count batches = record state {
    counts = record {
      acts = acts;
      last_change = last_change;
      last_batch = last_batch;
      last_tx = last_tx;
      routed = state.counts.routed;
    };
    writers = with_item writer_key (record { writer = writer; number = number; first = first; count = count }) state.writers;
    tables = rows;
    changes = state.changes ++ changes_of config state.me.group first (state.counts.last_tx + 1) None dones;
    batches = batches;
  }

  same_stands : (acts acts' change change' batch batch' first first' count count' : ℕ) (batches batches' : List OutBatch)
      → acts ≡ acts' → change ≡ change' → batch ≡ batch' → first ≡ first' → count ≡ count' → batches ≡ batches'
      → stands acts change batch (state.counts.last_tx + 1) first count batches ≡ stands acts' change' batch' (state.counts.last_tx + 1) first' count' batches'
  same_stands acts acts' change change' batch batch' first first' count count' batches batches' a b c d e f = cc

  abbrev captured : ℕ
  captured = length (changes_of config state.me.group (state.counts.last_change + 1) (state.counts.last_tx + 1) None dones)

  pub state_is_written : state_after config state act ≡ state_written config (with_rows state rows) writer number dones
  state_is_written =
      let plain = length (changes_of config state.me.group 0 0 None dones) in
      let batches = map (with_standing (state.batches ++ []) (act ∷ [])) (state.batches ++ []) in
      let same = captured_count config state.me.group (state.counts.last_change + 1) (state.counts.last_tx + 1) None dones in
      ap (λ (r : Run). state_by config state (act ∷ []) (r ∷ [])) run_is
      ∙ same_stands (state.counts.acts + length (ran ∷ [])) (state.counts.acts + 1)
      (state.counts.last_change + (0 + plain)) (state.counts.last_change + captured)
      (state.counts.last_batch + 0) state.counts.last_batch
      (state.counts.last_change + 0 + 1) (state.counts.last_change + 1)
      plain captured batches state.batches
      refl (more state.counts.last_change plain captured same) (add-zero state.counts.last_batch) (ap (λ n. n + 1) (add-zero state.counts.last_change)) same
      (quiet_all (state.batches ++ []) (act ∷ []) (state.batches ++ []) (λ peer. refl) ∙ append-nil state.batches)
    where
      more : (a b c : ℕ) → b ≡ c → a + (0 + b) ≡ a + c
      more a b c is = omega (arith, is)

  -- the edits, where the run and the counters after it are told
  abbrev edits_by : Run → Counts → List Edit
  edits_by run counts =
      let captured = captured_in config state (state.counts.last_change + 1) (state.counts.last_tx + 1) run in
      let last : WriterLast = record { writer = writer; number = number; first = state.counts.last_change + 1; count = length captured } in
      (row_edits config (dones_of run.end) ++ puts_of (map (change_record config) captured))
      ++ put_edit (writer_record last) ∷ (put_edit (count_record counts) ∷ [])

  pub edits_are_written : edits_of config state act ≡ written_edits config (with_rows state rows) writer number dones
  edits_are_written =
      edits_of_writes config state writer number tx
      ∙ (ap (λ (r : Run). edits_by r (state_after config state act).counts) run_is
      ∙ ap (λ (s : State). edits_by ran s.counts) state_is_written)

  pub answer_is_written : done_answer config state act ≡ written config (with_rows state rows) dones
  answer_is_written =
      ap (λ (s : State). answer.Done (state.counts.last_change + 1) (s.counts.last_change - state.counts.last_change)) state_is_written
      ∙ ap (answer.Done (state.counts.last_change + 1)) (rest state.counts.last_change _)
    where
      rest : (a b : ℕ) → a + b - a ≡ b
      rest a b = omega arith
