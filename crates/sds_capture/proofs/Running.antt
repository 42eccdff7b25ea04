-- A run of rows that is taken one row at a time.
use Rattle.std.proofs.Common.{◌≡◌, ℕ, ◌≤◌, Bool, true, false, List, [], ◌∷◌, ◌++◌, Option, None, Some, length, drop, refl, sym, ap, ◌∙◌, subst}
use Rattle.std.specs.Str.{chars}
use Rattle.std.proofs.lemmas.List.{drop_all}
use Rattle.sds_value.specs.declared.table.TableDef.{TableDef}
use Rattle.sds_types.specs.declared.conflict.Resolution.{Resolution}
use Rattle.sds_types.specs.declared.conflict.Resolution.TheVariants.{Apply, SkipRow, SkipBatch, Broken}
use Rattle.sds_types.specs.declared.row.RowStep.{RowStep}
use Rattle.sds_types.specs.declared.row.TableRow.{TableRow}
use Rattle.sds_types.specs.declared.rule.Rule.{Rule}
use Rattle.sds_trade.specs.rules.Captured.{Done, overflows}
use Rattle.sds_trade.specs.rules.Runs.{RunEnd, by_broken, by_step_rules, done_of, with_done}
use Rattle.sds_trade.specs.rules.Runs.RunEnd.{Made, Ignored, Refused}
use Rattle.sds_trade.specs.rules.StepRules.{broken_rule}
use Rattle.sds_trade.specs.rules.Steps.{rows_after}
use Rattle.sds_capture.specs.Ends.{numbered, run_at, with_dones}
use Rattle.sds_capture.specs.declared.run.Capturing.{Capturing}

-- STEPS BEFORE
pub onto_ignored : (dones : List Done) → with_dones dones Ignored ≡ Ignored
onto_ignored [] = refl
onto_ignored (done ∷ dones) = ap (with_done done) (onto_ignored dones)

pub onto_refused : (dones : List Done) (number : ℕ) (rule : Rule) → with_dones dones (Refused number rule) ≡ Refused number rule
onto_refused [] number rule = refl
onto_refused (done ∷ dones) number rule = ap (with_done done) (onto_refused dones number rule)

pub onto_made : (dones : List Done) (rows : List TableRow) → with_dones dones (Made [] rows) ≡ Made dones rows
onto_made [] rows = refl
onto_made (done ∷ dones) rows = ap (with_done done) (onto_made dones rows)

onto_more : (dones : List Done) (done : Done) (end : RunEnd) → with_dones (dones ++ done ∷ []) end ≡ with_dones dones (with_done done end)
onto_more [] done end = refl
onto_more (other ∷ dones) done end = ap (with_done other) (onto_more dones done end)

-- A STEP THAT IS MADE BREAKS NO RULE
unbroken : (broken : Option Rule) (overflow : Bool) (own step : RowStep) → by_broken broken overflow own ≡ Apply step
    → own ≡ step
unbroken None true own step is = absurd (cc)
unbroken None false own step is = cc
unbroken (Some rule) overflow own step is = absurd (cc)

none_broken : (broken : Option Rule) (overflow : Bool) (own step : RowStep) → by_broken broken overflow own ≡ Apply step
    → broken ≡ None
none_broken None overflow own step is = refl
none_broken (Some rule) overflow own step is = absurd (cc)

allowed : (defs : List TableDef) (overflow : RowStep → Bool) (rows : List TableRow) (asks : Resolution) (step : RowStep)
    → by_step_rules defs overflow rows asks ≡ Apply step → broken_rule defs rows step ≡ None
allowed defs overflow rows (Apply own) step is =
    subst (λ (s : RowStep). broken_rule defs rows s ≡ None) (unbroken (broken_rule defs rows own) (overflow own) own step is)
    (none_broken (broken_rule defs rows own) (overflow own) own step is)
allowed defs overflow rows SkipRow step is = absurd (cc)
allowed defs overflow rows SkipBatch step is = absurd (cc)
allowed defs overflow rows (Broken rule) step is = absurd (cc)

pub step_allowed : (defs : List TableDef) (overflow : RowStep → Bool) (rows : List TableRow) (asks result : Resolution) (step : RowStep)
    → result ≡ by_step_rules defs overflow rows asks → result ≡ Apply step → broken_rule defs rows step ≡ None
step_allowed defs overflow rows asks result step judged is = allowed defs overflow rows asks step (sym judged ∙ is)

-- A ROW AND THE LATER ONES
module _ {R : Type 0} (at : Capturing) (asked : List TableRow → R → Resolution) (defs : List TableDef) (rows : List TableRow) (row : R)
    (asks result : Resolution) (same : defs ≡ at.config.now.tables) (is_asked : asks ≡ asked rows row)
    (judged : result ≡ by_step_rules defs (overflows at.config.now (chars at.group.now) at.incoming at.waiting) rows asks) where
  comes_to : (done : Resolution) → result ≡ done
      → by_step_rules at.config.now.tables (overflows at.config.now (chars at.group.now) at.incoming at.waiting) rows (asked rows row) ≡ done
  comes_to done is = rw (← same) (rw (← is_asked) (sym judged ∙ is))

  abbrev goes_on : ℕ → List (ℕ × R) → Resolution → RunEnd
  goes_on number later resolution = elim resolution [
    | Apply step ↦ with_done (done_of at.config.now.tables rows step) (run_at at asked (rows_after at.config.now.tables rows step) later)
    | SkipRow ↦ run_at at asked rows later
    | SkipBatch ↦ Ignored
    | Broken rule ↦ Refused number rule
  ]

  ran : (done : Resolution) → result ≡ done → (number : ℕ) (later : List (ℕ × R))
      → run_at at asked rows ((number, row) ∷ later) ≡ goes_on number later done
  ran done is number later = ap (goes_on number later) (comes_to done is)

  pub made_step : (step : RowStep) (after : List TableRow) (dones longer : List Done) → result ≡ Apply step
      → longer ≡ dones ++ done_of defs rows step ∷ [] → after ≡ rows_after defs rows step → (number : ℕ) (later : List (ℕ × R))
      → with_dones dones (run_at at asked rows ((number, row) ∷ later)) ≡ with_dones longer (run_at at asked after later)
  made_step step after dones longer is more rows_are number later =
      ap (with_dones dones) (ran (Apply step) is number later)
      ∙ (rw more (rw rows_are (rw same
      (sym (onto_more dones (done_of at.config.now.tables rows step) (run_at at asked (rows_after at.config.now.tables rows step) later))))))

  pub skipped_batch : (dones : List Done) → result ≡ SkipBatch → (number : ℕ) (later : List (ℕ × R))
      → with_dones dones (run_at at asked rows ((number, row) ∷ later)) ≡ Ignored
  skipped_batch dones is number later = ap (with_dones dones) (ran SkipBatch is number later) ∙ onto_ignored dones

  pub broken_row : (dones : List Done) (rule : Rule) → result ≡ Broken rule → (number : ℕ) (later : List (ℕ × R))
      → with_dones dones (run_at at asked rows ((number, row) ∷ later)) ≡ Refused number rule
  broken_row dones rule is number later = ap (with_dones dones) (ran (Broken rule) is number later) ∙ onto_refused dones number rule

-- THE END. No row is left
pub all_taken : {R : Type 0} (at : Capturing) (asked : List TableRow → R → Resolution) (number : ℕ → R → ℕ) (dones made : List Done)
    (after : List TableRow) (end : RunEnd) (place : ℕ) (rows : List R) → length rows ≤ place
    → made ≡ dones → with_dones dones (run_at at asked after (numbered number place (drop place rows))) ≡ end → Made made after ≡ end
all_taken {R = R} at asked number dones made after end place rows within same is =
    rw same (sym (onto_made dones after)
    ∙ (ap (λ (others : List R). with_dones dones (run_at at asked after (numbered number place others))) (sym (drop_all place rows within)) ∙ is))
