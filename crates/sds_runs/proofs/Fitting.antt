-- The steps that a run of rows made fit their tables, and are no more than its rows.
use Rattle.std.proofs.Common.{◌≡◌, ℕ, suc, ◌≤◌, ◌<◌, ◌^◌, ◌&&◌, Bool, true, false, List, [], ◌∷◌, length, map, Option, None, Some, All, subst, arith, refl}
use Rattle.std.specs.List.{enumerate_from}
use Rattle.std.proofs.lemmas.List.{length-map}
use Rattle.std.proofs.lemmas.List.Elements.{All-cons, All-nil}
use Rattle.std.proofs.lemmas.List.FromFn.{length-enumerate_from}
use Rattle.sds_value.specs.Names.{is_name_text}
use Rattle.sds_value.specs.declared.table.TableDef.{TableDef}
use Rattle.sds_types.specs.Limits.{most_write_rows}
use Rattle.sds_types.specs.declared.conflict.Resolution.{Resolution}
use Rattle.sds_types.specs.declared.conflict.Resolution.TheVariants.{Apply, SkipRow, SkipBatch, Broken}
use Rattle.sds_types.specs.declared.config.Config.{Config}
use Rattle.sds_types.specs.declared.load_row.LoadRow.{LoadRow}
use Rattle.sds_types.specs.declared.prepared.Body.{Body}
use Rattle.sds_types.specs.declared.prepared.Body.TheVariants as body
use Rattle.sds_types.specs.declared.prepared.Prepared.{Prepared}
use Rattle.sds_types.specs.declared.row.RowStep.{RowStep}
use Rattle.sds_types.specs.declared.row.TableRow.{TableRow}
use Rattle.sds_types.specs.declared.tx_row.TxRow.{TxRow}
use Rattle.sds_trade.proofs.Lists.{all_head, all_tail}
use Rattle.sds_trade.specs.rules.Captured as plain
use Rattle.sds_trade.specs.rules.Captured.{overflows}
use Rattle.sds_trade.specs.rules.Outcomes.{batch_judge, by_body, by_channel, outcome_of_batch, with_number}
use Rattle.sds_trade.specs.rules.OwnWrites.{outcome_of_write, own_judge}
use Rattle.sds_trade.specs.rules.Places.{columns_at}
use Rattle.sds_trade.specs.rules.Runs.{RunEnd, by_step_rules, done_of, run, with_done}
use Rattle.sds_trade.specs.rules.Runs.RunEnd.{Made, Ignored, Refused}
use Rattle.sds_trade.specs.rules.Sound.{IsSound}
use Rattle.sds_trade.specs.rules.Steps.{new_row, rows_after, table_of}
use Rattle.sds_trade.specs.rules.Tables.{AreTables}
use Rattle.sds_history.specs.history.Acts.{State}
use Rattle.sds_history.specs.history.Writes.{waiting_in}
use Rattle.sds_load.specs.Bodies.{rows_in}
use Rattle.sds_nodelaws.specs.Asked.{IsReadFrom, are_spelt}
use Rattle.sds_nodelaws.proofs.Judges.{load_ends, write_ends}
use Rattle.sds_nodelaws.proofs.Lists.{and_right}
use Rattle.sds_nodelaws.proofs.TableRuns.{EndsIn, IsDone}
use Rattle.sds_imagelaws.proofs.AskedImages.{side_fits}
use Rattle.sds_records.proofs.Places.{sound_key}
use Rattle.sds_rows.specs.Undoing.{without_undo, without_undos}
use Rattle.sds_rows.specs.declared.undo.Done.{Done}
use Rattle.sds_runs.specs.Fitting.{FitSteps, FitsStep}

-- STEPS that fit
step_fits : (config : Config) (done : plain.Done) → IsSound config → IsDone config.tables done → FitsStep config done
step_fits config done sound is = record {
  new = side_fits (columns_at config.tables (table_of done.step)) (new_row done.step) is.made;
  old = side_fits (columns_at config.tables (table_of done.step)) done.old is.stood;
  key = sound_key config (table_of done.step) sound is.there;
}

steps_fit : (config : Config) (dones : List Done) → IsSound config → All (IsDone config.tables) (without_undos dones) → FitSteps config dones
steps_fit config [] sound are = All-nil (λ (done : Done). FitsStep config (without_undo done))
steps_fit config (done ∷ dones) sound are =
    All-cons (λ (one : Done). FitsStep config (without_undo one)) done dones
    (step_fits config (without_undo done) sound (all_head (IsDone config.tables) (without_undo done) (without_undos dones) are))
    (steps_fit config dones sound (all_tail (IsDone config.tables) (without_undo done) (without_undos dones) are))

-- HOW MANY a run makes
abbrev AtMost : ℕ → RunEnd → Type 0
AtMost n (Made dones rows) = length dones ≤ n
AtMost n Ignored = Unit {0}
AtMost n (Refused number rule) = Unit {0}

one_more : (n : ℕ) (done : plain.Done) (end : RunEnd) → AtMost n end → AtMost (suc n) (with_done done end)
one_more n done (Made dones rows) few = omega (arith, few)
one_more n done Ignored few = tt
one_more n done (Refused number rule) few = tt

no_more : (n : ℕ) (end : RunEnd) → AtMost n end → AtMost (suc n) end
no_more n (Made dones rows) few = omega (arith, few)
no_more n Ignored few = tt
no_more n (Refused number rule) few = tt

run_few : {R : Type 0} (defs : List TableDef) (overflow : RowStep → Bool) (judge : List TableRow → R → Resolution) (rows : List TableRow) (list : List (ℕ × R))
    → AtMost (length list) (run defs overflow judge rows list)
run_few defs overflow judge rows [] = omega arith
run_few {R} defs overflow judge rows (next ∷ later) = on (by_step_rules defs overflow rows (judge rows next.1)) (λ from. run_few defs overflow judge from later)
  where
    on : (r : Resolution) → ((from : List TableRow) → AtMost (length later) (run defs overflow judge from later)) → AtMost (suc (length later)) (elim r [
      | Apply step ↦ with_done (done_of defs rows step) (run defs overflow judge (rows_after defs rows step) later)
      | SkipRow ↦ run defs overflow judge rows later
      | SkipBatch ↦ Ignored
      | Broken rule ↦ Refused next.0 rule
    ])
    on (Apply step) rest =
        one_more (length later) (done_of defs rows step) (run defs overflow judge (rows_after defs rows step) later) (rest (rows_after defs rows step))
    on SkipRow rest = no_more (length later) (run defs overflow judge rows later) (rest rows)
    on SkipBatch rest = tt
    on (Broken rule) rest = tt

write_few : (config : Config) (group : List ℕ) (waiting : ℕ) (rows : List TableRow) (tx : List TxRow) → AtMost (length tx) (outcome_of_write config group waiting rows tx)
write_few config group waiting rows tx =
    subst (λ n. AtMost n (outcome_of_write config group waiting rows tx)) (length-enumerate_from 1 tx)
    (run_few config.tables (overflows config group false waiting) (own_judge config.tables) rows (enumerate_from 1 tx))

load_few : (config : Config) (group : List ℕ) (waiting : ℕ) (rows : List TableRow) (batch : Prepared)
    → AtMost (length (rows_in batch.body)) (outcome_of_batch config group waiting rows batch)
load_few config group waiting rows batch = by_place batch.channel
  where
    on : (made : Body) → AtMost (length (rows_in made)) (by_body config group waiting rows batch made)
    on (body.Broken number rule) = tt
    on (body.Rows made) =
        subst (λ n. AtMost n (by_body config group waiting rows batch (body.Rows made))) (length-map made with_number)
        (run_few config.tables (overflows config group true waiting) (batch_judge config batch) rows (map with_number made))

    by_place : (channel : Option ℕ) → AtMost (length (rows_in batch.body)) (by_channel config group waiting rows batch channel)
    by_place None = tt
    by_place (Some channel) = on batch.body

-- THE STEPS of a write and of a load
write_fits : (config : Config) (group : List ℕ) (waiting : ℕ) (rows after : List TableRow) (tx : List TxRow) (dones : List Done) → IsSound config
    → AreTables config.tables rows → are_spelt tx ≡ true → outcome_of_write config group waiting rows tx ≡ Made (without_undos dones) after
    → FitSteps config dones × (length dones ≤ length tx)
write_fits config group waiting rows after tx dones sound are spelt is = (
  steps_fit config dones sound (subst (EndsIn config.tables) is (write_ends config group waiting rows tx sound are spelt)).1,
  subst (λ n. n ≤ length tx) (length-map dones without_undo) (subst (AtMost (length tx)) is (write_few config group waiting rows tx)),
)

load_fits : (config : Config) (group : List ℕ) (waiting : ℕ) (rows after : List TableRow) (from : List ℕ) (batch : Prepared) (dones : List Done) → IsSound config
    → AreTables config.tables rows → IsReadFrom config from batch → outcome_of_batch config group waiting rows batch ≡ Made (without_undos dones) after
    → FitSteps config dones × (length dones ≤ length (rows_in batch.body))
load_fits config group waiting rows after from batch dones sound are read is = (
  steps_fit config dones sound (subst (EndsIn config.tables) is (load_ends config group waiting rows from batch sound are read)).1,
  subst (λ n. n ≤ length (rows_in batch.body)) (length-map dones without_undo) (subst (AtMost (length (rows_in batch.body))) is (load_few config group waiting rows batch)),
)

few_enough : (a b : ℕ) → a ≤ b → b ≤ most_write_rows → a < 2 ^ 32
few_enough a b few most = omega (arith, few, most)

pub next_steps : (config : Config) (state : State) (writer : List ℕ) (tx : List TxRow) (after : List TableRow) (dones : List Done) → IsSound config
    → AreTables config.tables state.tables → (is_name_text writer && are_spelt tx) ≡ true → length tx ≤ most_write_rows
    → outcome_of_write config state.me.group (waiting_in state) state.tables tx ≡ Made (without_undos dones) after
    → FitSteps config dones × (length dones < 2 ^ 32)
next_steps config state writer tx after dones sound tables asked most is =
    let fit = write_fits config state.me.group (waiting_in state) state.tables after tx dones sound tables (and_right (is_name_text writer) (are_spelt tx) asked) is in
    (fit.0, few_enough (length dones) (length tx) fit.1 most)

pub next_load_steps : (config : Config) (state : State) (from : List ℕ) (batch : Prepared) (after : List TableRow) (dones : List Done) → IsSound config
    → AreTables config.tables state.tables → IsReadFrom config from batch → length (rows_in batch.body) < 2 ^ 32
    → outcome_of_batch config state.me.group (waiting_in state) state.tables batch ≡ Made (without_undos dones) after
    → FitSteps config dones × (length dones < 2 ^ 32)
next_load_steps config state from batch after dones sound tables read most is =
    let fit = load_fits config state.me.group (waiting_in state) state.tables after from batch dones sound tables read is in
    (fit.0, below (length dones) (length (rows_in batch.body)) fit.1 most)
  where
    below : (a b : ℕ) → a ≤ b → b < 2 ^ 32 → a < 2 ^ 32
    below a b few less = omega (arith, few, less)
