-- How a write ends, by how its rows end.
use Rattle.std.proofs.Common.{◌≡◌, ◌≢◌, ℕ, List, Option, None, Some, Result, Ok, Err, refl, sym, ap, subst, ◌∙◌}
use Rattle.sds_outside.specs.Keepings.{Keeping}
use Rattle.sds_types.specs.declared.config.Config.{Config}
use Rattle.sds_types.specs.declared.node_fault.NodeFault.TheVariants.{NoMemory}
use Rattle.sds_types.specs.declared.row.TableRow.{TableRow}
use Rattle.sds_types.specs.declared.rule.Rule.{Rule}
use Rattle.sds_types.specs.declared.tx_row.Broken.{Broken}
use Rattle.sds_types.specs.declared.tx_row.Broken.TheVariants as broken
use Rattle.sds_types.specs.declared.tx_row.TxRow.{TxRow}
use Rattle.sds_types.specs.declared.write_answer.WriteRefusal.{WriteRefusal}
use Rattle.sds_types.specs.declared.write_answer.WriteRefusal.TheVariants as write
use Rattle.sds_types.specs.declared.write_answer.WriteRefusal.TheVariants.{Fault}
use Rattle.sds_types.specs.declared.write_answer.Written.{Written}
use Rattle.sds_trade.specs.rules.Captured.{Done}
use Rattle.sds_trade.specs.rules.OwnWrites.{outcome_of_write}
use Rattle.sds_trade.specs.rules.Runs.{RunEnd}
use Rattle.sds_trade.specs.rules.Runs.RunEnd.{Made, Refused}
use Rattle.sds_history.specs.history.Acts.{Act, State}
use Rattle.sds_history.specs.history.Acts.Act.{Wrote}
use Rattle.sds_history.specs.history.Writes.{next_answer, run_answer, waiting_in, write_by}
use Rattle.sds_capture.specs.Ends.{write_end}
use Rattle.sds_rows.specs.declared.undo.Done as rows
use Rattle.sds_commit.specs.Ends.{Kept}
use Rattle.sds_runs.specs.Fitting.{is_full}
use Rattle.sds_runs.specs.Keeping.{Keeps}
use Rattle.sds_runs.specs.Made.{with_rows, write_kept, written}
use Rattle.sds_runs.specs.Ready.{refusal_of}
use Rattle.sds_runs.proofs.Fullness.{write_by_full}
use Rattle.sds_runs.proofs.Endings.{EndsOwn, kept_ends, lacking_ends, quiet_ends}
use Rattle.sds_runs.proofs.Written.{answer_is_written, edits_are_written, state_is_written}

-- how a write ends that has this answer of its own
abbrev pub EndsWrite : Config → Kept → Kept → Act → Result Written WriteRefusal → Result Written WriteRefusal → Type 0
EndsWrite config before after act own result = EndsOwn config before after Fault (write_by act own) own result

module _ (config : Config) (state : State) (kept : Keeping) (writer : List ℕ) (number : ℕ) (tx : List TxRow) where
  abbrev act : Act
  act = Wrote writer number tx

  abbrev before : Kept
  before = record { state = state; told = kept }

  abbrev own : Result Written WriteRefusal
  own = next_answer config state writer number tx

  pub write_made : (dones : List Done) (rows : List TableRow) (after : Kept) (result : Result Written WriteRefusal)
      → outcome_of_write config state.me.group (waiting_in state) state.tables tx ≡ Made dones rows
      → Keeps Fault (write_kept config (with_rows state rows) writer number dones) (written config (with_rows state rows) dones) before after result
      → EndsWrite config before after act own result
  write_made dones rows after result is keeps =
      subst (λ answer. EndsWrite config before after act answer result)
      (sym (ap (run_answer config state act) is ∙ ap Ok (answer_is_written config state writer number tx dones rows is)))
      (kept_ends config before after Fault act (write_kept config (with_rows state rows) writer number dones) (written config (with_rows state rows) dones) result refl
      (sym (edits_are_written config state writer number tx dones rows is)) (sym (state_is_written config state writer number tx dones rows is)) keeps)

  write_broken : (row : ℕ) (rule : Rule) (after : Kept) → after ≡ before
      → outcome_of_write config state.me.group (waiting_in state) state.tables tx ≡ Refused row rule
      → EndsWrite config before after act own (Err (write.Broken row rule))
  write_broken row rule after same is =
      subst (λ answer. EndsWrite config before after act answer (Err (write.Broken row rule))) (sym (ap (run_answer config state act) is))
      (quiet_ends config before after Fault (Err (write.Broken row rule)) same (λ has. absurd (cc), λ lacks. absurd (cc)))

  write_lacks : (after : Kept) → after ≡ before → EndsWrite config before after act own (Err (Fault NoMemory))
  write_lacks after same =
      lacking_ends config before after Fault (write_by act own) own (Err (Fault NoMemory)) same refl (λ has. absurd (cc))

  -- the rows aren't made
  pub write_refused : (tried : Result (List rows.Done) Broken) (why : Broken) (refusal : WriteRefusal) (rows : List TableRow) (after : Kept) (end : RunEnd)
      → tried ≡ Err why → refusal ≡ refusal_of why → after ≡ before
      → (tried ≢ Err broken.NoMemory → write_end tried rows ≡ end) → outcome_of_write config state.me.group (waiting_in state) state.tables tx ≡ end
      → EndsWrite config before after act own (Err refusal)
  write_refused tried (broken.Rule row rule) refusal rows after end failing says same ends is =
      subst (λ why. EndsWrite config before after act own (Err why)) (sym says)
      (write_broken row rule after same (is ∙ (sym (ends (λ lacks. absurd (cc))) ∙ ap (λ t. write_end t rows) failing)))
  write_refused tried broken.NoMemory refusal rows after end failing says same ends is =
      subst (λ why. EndsWrite config before after act own (Err why)) (sym says) (write_lacks after same)

-- how the rows end at a node, where it is told whether too many changes wait
pub outcome_is : (config : Config) (state : State) (group : List ℕ) (waiting : ℕ) (tx : List TxRow) → group ≡ state.me.group
    → is_full waiting ≡ is_full (waiting_in state)
    → outcome_of_write config state.me.group (waiting_in state) state.tables tx ≡ outcome_of_write config group waiting state.tables tx
outcome_is config state group waiting tx named full =
    sym (write_by_full config group waiting (waiting_in state) state.tables tx full ∙ ap (λ g. outcome_of_write config g (waiting_in state) state.tables tx) named)
