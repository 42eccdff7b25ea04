-- The rows of a transaction, one after another: each is judged on the tables that those before it
-- left, and the first that breaks a rule ends it. Own writes and batches are two judges of one run.
use Rattle.std.specs.Prelude.{ℕ, Bool, true, false, List, [], ◌∷◌, Option, None, Some, option_and_then}
use Rattle.sds_value.specs.declared.table.TableDef.{TableDef}
use Rattle.sds_types.specs.declared.conflict.Resolution.{Resolution}
use Rattle.sds_types.specs.declared.conflict.Resolution.TheVariants.{Apply, SkipRow, SkipBatch, Broken}
use Rattle.sds_types.specs.declared.row.RowStep.{RowStep}
use Rattle.sds_types.specs.declared.row.TableRow.{TableRow}
use Rattle.sds_types.specs.declared.rule.Rule.{Rule}
use Rattle.sds_types.specs.declared.rule.Rule.TheVariants.{CaptureFull}
use Rattle.sds_trade.specs.rules.Captured.{Done}
use Rattle.sds_trade.specs.rules.Steps.{table_of, old_key, rows_after}
use Rattle.sds_trade.specs.rules.StepRules.{broken_rule}
use Rattle.sds_trade.specs.rules.Tables.{row_at}

-- how a transaction ends: all its steps and the tables after them; or it is ignored; or its row of
-- this number is the first that breaks a rule, and this is the first rule that it breaks. But for
-- the first the tables stay as they were
pub data RunEnd : Type 0 where
  Made : List Done → List TableRow → RunEnd
  Ignored : RunEnd
  Refused : ℕ → Rule → RunEnd

-- a step that breaks no rule on steps may still be captured where too many changes wait
abbrev pub by_capture : Bool → RowStep → Resolution
by_capture true step = Broken CaptureFull
by_capture false step = Apply step

abbrev pub by_broken : Option Rule → Bool → RowStep → Resolution
by_broken None overflow step = by_capture overflow step
by_broken (Some rule) overflow step = Broken rule

-- what is to be done with a row, where a step that it asks for is judged by the rules on steps
abbrev pub by_step_rules : List TableDef → (RowStep → Bool) → List TableRow → Resolution
    → Resolution
by_step_rules defs overflow rows (Apply step) =
    by_broken (broken_rule defs rows step) (overflow step) step
by_step_rules defs overflow rows SkipRow = SkipRow
by_step_rules defs overflow rows SkipBatch = SkipBatch
by_step_rules defs overflow rows (Broken rule) = Broken rule

abbrev pub done_of : List TableDef → List TableRow → RowStep → Done
done_of defs rows step = record {
  step = step;
  old = option_and_then (row_at defs rows (table_of step)) (old_key step);
}

-- how it ends with a step before
abbrev pub with_done : Done → RunEnd → RunEnd
with_done done (Made dones rows) = Made (done ∷ dones) rows
with_done done Ignored = Ignored
with_done done (Refused number rule) = Refused number rule

-- the run of numbered rows over tables. The judge says what a row asks for where certain rows
-- stand; `overflow` is whether a step would be captured where too many changes wait
abbrev pub run : {R : Type 0} → List TableDef → (RowStep → Bool)
    → (List TableRow → R → Resolution) → List TableRow → List (ℕ × R) → RunEnd
run defs overflow judge rows [] = Made [] rows
run defs overflow judge rows (next ∷ later) =
    elim (by_step_rules defs overflow rows (judge rows next.1)) [
      | Apply step ↦ with_done (done_of defs rows step)
          (run defs overflow judge (rows_after defs rows step) later)
      | SkipRow ↦ run defs overflow judge rows later
      | SkipBatch ↦ Ignored
      | Broken rule ↦ Refused next.0 rule
    ]
