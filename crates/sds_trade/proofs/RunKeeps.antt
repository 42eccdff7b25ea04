-- An accepted write or batch goes by its steps, each of which breaks no rule; so the rows ascend and the references hold.
use Rattle.std.proofs.Common.{◌≡◌, ℕ, Bool, true, false, List, [], ◌∷◌, Option, None, Some, refl, sym, ap, subst, ◌∙◌, true≢false, map}
use Rattle.sds_value.specs.declared.table.TableDef.{TableDef}
use Rattle.sds_types.specs.declared.config.Config.{Config}
use Rattle.sds_types.specs.declared.conflict.Resolution.{Resolution}
use Rattle.sds_types.specs.declared.conflict.Resolution.TheVariants.{Apply, SkipRow, SkipBatch, Broken}
use Rattle.sds_types.specs.declared.prepared.Body.{Body}
use Rattle.sds_types.specs.declared.prepared.Body.TheVariants as body
use Rattle.sds_types.specs.declared.prepared.Prepared.{Prepared}
use Rattle.sds_types.specs.declared.row.RowStep.{RowStep}
use Rattle.sds_types.specs.declared.row.TableRow.{TableRow}
use Rattle.sds_types.specs.declared.rule.Rule.{Rule}
use Rattle.std.specs.List.{enumerate_from}
use Rattle.sds_trade.specs.laws.Runs.{WritesGoByStep, BatchesGoByStep, WritesKeepTables, BatchesKeepTables, rows_left, rows_after_all}
use Rattle.sds_trade.specs.rules.Captured.{Done, overflows}
use Rattle.sds_trade.specs.rules.Outcomes.{batch_judge, by_body, by_channel, with_number}
use Rattle.sds_trade.specs.rules.OwnWrites.{own_judge}
use Rattle.sds_trade.specs.rules.Runs.{RunEnd, run, with_done, done_of, by_broken, by_capture, by_step_rules}
use Rattle.sds_trade.specs.rules.Runs.RunEnd.{Made, Ignored, Refused}
use Rattle.sds_trade.specs.rules.StepRules.{broken_rule}
use Rattle.sds_trade.specs.rules.Steps.{rows_after}
use Rattle.sds_trade.specs.rules.Tables.{Ascend, ReferencesHold}
use Rattle.sds_trade.proofs.StepsKeep.{steps_keep_references}
use Rattle.sds_trade.proofs.TableLaws.{steps_keep_order}

-- what a run that is made has
abbrev is_made : RunEnd → Bool
is_made (Made dones rows) = true
is_made Ignored = false
is_made (Refused number rule) = false

abbrev dones_in : RunEnd → List Done
dones_in (Made dones rows) = dones
dones_in Ignored = []
dones_in (Refused number rule) = []

abbrev is_apply : Resolution → Bool
is_apply (Apply step) = true
is_apply SkipRow = false
is_apply SkipBatch = false
is_apply (Broken rule) = false

abbrev step_in : RowStep → Resolution → RowStep
step_in other (Apply step) = step
step_in other SkipRow = other
step_in other SkipBatch = other
step_in other (Broken rule) = other

no_step : {G : Type 0} (r : Resolution) (step : RowStep) → is_apply r ≡ false → r ≡ Apply step → G
no_step r step not_apply is = absurd (true≢false (sym (ap is_apply is) ∙ not_apply))

no_end : {G : Type 0} (e : RunEnd) (dones : List Done) (rows : List TableRow) → is_made e ≡ false → e ≡ Made dones rows → G
no_end e dones rows not_made is = absurd (true≢false (sym (ap is_made is) ∙ not_made))

-- A STEP THAT IS MADE breaks no rule
by_overflow : (defs : List TableDef) (rows : List TableRow) (made step : RowStep) (overflow : Bool) → broken_rule defs rows made ≡ None
    → by_capture overflow made ≡ Apply step → broken_rule defs rows step ≡ None
by_overflow defs rows made step true none is = no_step (by_capture true made) step refl is
by_overflow defs rows made step false none is = subst (λ s. broken_rule defs rows s ≡ None) (ap (step_in step) is) none

by_rule_on : (defs : List TableDef) (rows : List TableRow) (made step : RowStep) (overflow : Bool) (rule : Option Rule) → broken_rule defs rows made ≡ rule
    → by_broken rule overflow made ≡ Apply step → broken_rule defs rows step ≡ None
by_rule_on defs rows made step overflow None none is = by_overflow defs rows made step overflow none is
by_rule_on defs rows made step overflow (Some rule) some is = no_step (by_broken (Some rule) overflow made) step refl is

breaks_none : (defs : List TableDef) (overflow : RowStep → Bool) (rows : List TableRow) (asked : Resolution) (step : RowStep)
    → by_step_rules defs overflow rows asked ≡ Apply step → broken_rule defs rows step ≡ None
breaks_none defs overflow rows (Apply made) step is = by_rule_on defs rows made step (overflow made) (broken_rule defs rows made) refl is
breaks_none defs overflow rows SkipRow step is = no_step SkipRow step refl is
breaks_none defs overflow rows SkipBatch step is = no_step SkipBatch step refl is
breaks_none defs overflow rows (Broken rule) step is = no_step (Broken rule) step refl is

-- A RUN goes by its steps, and keeps what they keep
abbrev Sound : List TableDef → List TableRow → Type 0
Sound defs rows = Ascend defs rows × ReferencesHold defs rows

record Goes (defs : List TableDef) (rows : List TableRow) (dones : List Done) (after : List TableRow) : Type 0 where
  steps : after ≡ rows_after_all defs rows dones
  sound : Sound defs rows → Sound defs after

step_goes : (defs : List TableDef) (rows : List TableRow) (done : Done) (dones : List Done) (after : List TableRow)
    → broken_rule defs rows done.step ≡ None → Goes defs (rows_after defs rows done.step) dones after → Goes defs rows (done ∷ dones) after
step_goes defs rows done dones after none goes = record {
  steps = goes.steps;
  sound = λ are. goes.sound (steps_keep_order defs rows done.step are.0, steps_keep_references defs rows done.step none are.1);
}

with_goes : (defs : List TableDef) (rows : List TableRow) (done : Done) (later : RunEnd) (dones : List Done) (after : List TableRow)
    → broken_rule defs rows done.step ≡ None
    → ((more : List Done) → later ≡ Made more after → Goes defs (rows_after defs rows done.step) more after)
    → with_done done later ≡ Made dones after → Goes defs rows dones after
with_goes defs rows done (Made more last) dones after none rest is =
    let same : last ≡ after = ap (rows_left []) is in
    let all : done ∷ more ≡ dones = ap dones_in is in
    subst (λ list. Goes defs rows list after) all
    (step_goes defs rows done more after none (rest more (ap (Made more) same)))
with_goes defs rows done Ignored dones after none rest is = no_end Ignored dones after refl is
with_goes defs rows done (Refused number rule) dones after none rest is = no_end (Refused number rule) dones after refl is

run_on : {R : Type 0} (defs : List TableDef) (overflow : RowStep → Bool) (judge : List TableRow → R → Resolution) (rows : List TableRow)
    (next : ℕ × R) (later : List (ℕ × R)) (dones : List Done) (after : List TableRow) (r : Resolution)
    → by_step_rules defs overflow rows (judge rows next.1) ≡ r
    → elim r [
      | Apply step ↦ with_done (done_of defs rows step) (run defs overflow judge (rows_after defs rows step) later)
      | SkipRow ↦ run defs overflow judge rows later
      | SkipBatch ↦ Ignored
      | Broken rule ↦ Refused next.0 rule
    ] ≡ Made dones after
    → ((from : List TableRow) (more : List Done) → run defs overflow judge from later ≡ Made more after → Goes defs from more after)
    → Goes defs rows dones after
run_on defs overflow judge rows next later dones after (Apply step) asked is rest =
    with_goes defs rows (done_of defs rows step) (run defs overflow judge (rows_after defs rows step) later) dones after
    (breaks_none defs overflow rows (judge rows next.1) step asked)
    (λ more made. rest (rows_after defs rows step) more made) is
run_on defs overflow judge rows next later dones after SkipRow asked is rest = rest rows dones is
run_on defs overflow judge rows next later dones after SkipBatch asked is rest = no_end Ignored dones after refl is
run_on defs overflow judge rows next later dones after (Broken rule) asked is rest = no_end (Refused next.0 rule) dones after refl is

run_goes : {R : Type 0} (defs : List TableDef) (overflow : RowStep → Bool) (judge : List TableRow → R → Resolution) (rows : List TableRow)
    (list : List (ℕ × R)) (dones : List Done) (after : List TableRow) → run defs overflow judge rows list ≡ Made dones after → Goes defs rows dones after
run_goes defs overflow judge rows [] dones after is = record {
  steps = sym (ap (rows_left []) is) ∙ ap (λ e. rows_after_all defs rows (dones_in e)) is;
  sound = λ are. subst (Sound defs) (ap (rows_left []) is) are;
}
run_goes defs overflow judge rows (next ∷ later) dones after is =
    run_on defs overflow judge rows next later dones after (by_step_rules defs overflow rows (judge rows next.1)) refl is
    (λ from more made. run_goes defs overflow judge from later more after made)

-- WRITES AND BATCHES
pub writes_go_by_step : WritesGoByStep
writes_go_by_step config group waiting rows after tx dones is =
    (run_goes config.tables (overflows config group false waiting) (own_judge config.tables) rows (enumerate_from 1 tx) dones after is).steps

pub writes_keep_tables : WritesKeepTables
writes_keep_tables config group waiting rows after tx dones is are =
    (run_goes config.tables (overflows config group false waiting) (own_judge config.tables) rows (enumerate_from 1 tx) dones after is).sound are

body_goes : (config : Config) (group : List ℕ) (waiting : ℕ) (rows : List TableRow) (batch : Prepared) (made : Body) (dones : List Done) (after : List TableRow)
    → by_body config group waiting rows batch made ≡ Made dones after → Goes config.tables rows dones after
body_goes config group waiting rows batch (body.Rows made) dones after is =
    run_goes config.tables (overflows config group true waiting) (batch_judge config batch) rows (map with_number made) dones after is
body_goes config group waiting rows batch (body.Broken number rule) dones after is = no_end (Refused number rule) dones after refl is

channel_goes : (config : Config) (group : List ℕ) (waiting : ℕ) (rows : List TableRow) (batch : Prepared) (channel : Option ℕ) (dones : List Done) (after : List TableRow)
    → by_channel config group waiting rows batch channel ≡ Made dones after → Goes config.tables rows dones after
channel_goes config group waiting rows batch None dones after is = no_end (by_channel config group waiting rows batch None) dones after refl is
channel_goes config group waiting rows batch (Some channel) dones after is = body_goes config group waiting rows batch batch.body dones after is

pub batches_go_by_step : BatchesGoByStep
batches_go_by_step config group waiting rows after batch dones is = (channel_goes config group waiting rows batch batch.channel dones after is).steps

pub batches_keep_tables : BatchesKeepTables
batches_keep_tables config group waiting rows after batch dones is are = (channel_goes config group waiting rows batch batch.channel dones after is).sound are
