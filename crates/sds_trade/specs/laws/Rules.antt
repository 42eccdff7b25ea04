-- Laws of the order of rules: of two rules that are broken the one of the lower number answers.
use Rattle.std.specs.Prelude.{◌≡◌, ◌≤◌, Bool, true, List, Option, Some}
use Rattle.sds_value.specs.declared.kind.Binary.{Binary}
use Rattle.sds_value.specs.declared.row.DocRow.{DocRow}
use Rattle.sds_value.specs.declared.table.TableDef.{TableDef}
use Rattle.sds_types.specs.declared.row.RowStep.{RowStep}
use Rattle.sds_types.specs.declared.row.TableRow.{TableRow}
use Rattle.sds_types.specs.declared.rule.Rule.{Rule}
use Rattle.sds_types.specs.Rules.{number_of}
use Rattle.sds_value.specs.declared.kind.Binary.TheVariants.{Base64}
use Rattle.sds_types.specs.declared.conflict.ConflictDef.{ConflictDef}
use Rattle.sds_types.specs.declared.conflict.Resolution.TheVariants.{Apply, Broken}
use Rattle.sds_types.specs.declared.load_row.LoadRow.{LoadRow}
use Rattle.sds_types.specs.declared.rule.Rule.TheVariants.{OldMissing}
use Rattle.sds_types.specs.declared.tx_row.TxRow.{TxRow}
use Rattle.sds_trade.specs.rules.OwnWrites.{doc_of, own_judge, unseen_breaks, unseen_update}
use Rattle.sds_trade.specs.rules.Resolutions.{lacks_addend, resolution_of}
use Rattle.sds_trade.specs.rules.Runs.{by_step_rules}
use Rattle.sds_trade.specs.rules.StepRules.{step_breaks, broken_rule}
use Rattle.sds_trade.specs.rules.TextRules.{text_breaks, broken_text_rule}

abbrev pub FirstStepRuleAnswers : Type 0
FirstStepRuleAnswers = (defs : List TableDef) (rows : List TableRow) (step : RowStep)
    (rule other : Rule) → broken_rule defs rows step ≡ Some rule
    → step_breaks defs rows step other ≡ true → number_of rule ≤ number_of other

-- the rule that answers is broken
abbrev pub AnsweredStepRuleIsBroken : Type 0
AnsweredStepRuleIsBroken = (defs : List TableDef) (rows : List TableRow) (step : RowStep)
    (rule : Rule) → broken_rule defs rows step ≡ Some rule → step_breaks defs rows step rule ≡ true

abbrev pub FirstTextRuleAnswers : Type 0
FirstTextRuleAnswers = (defs : List TableDef) (form : Binary) (doc : DocRow)
    (rule other : Rule) → broken_text_rule defs form doc ≡ Some rule
    → text_breaks defs form doc other ≡ true → number_of rule ≤ number_of other

abbrev pub AnsweredTextRuleIsBroken : Type 0
AnsweredTextRuleIsBroken = (defs : List TableDef) (form : Binary) (doc : DocRow) (rule : Rule)
    → broken_text_rule defs form doc ≡ Some rule → text_breaks defs form doc rule ≡ true

-- an own row that breaks a rule on texts is answered by it, whatever stands
abbrev pub TextRulesComeFirst : Type 0
TextRulesComeFirst = (defs : List TableDef) (rows : List TableRow) (row : TxRow) (rule : Rule)
    → broken_text_rule defs Base64 (doc_of defs row) ≡ Some rule
    → own_judge defs rows row ≡ Broken rule

-- an update that names no row is answered by the first rule that it breaks, before RowMissing
abbrev pub FirstUnseenRuleAnswers : Type 0
FirstUnseenRuleAnswers = (defs : List TableDef) (rows : List TableRow) (row : LoadRow)
    (other : Rule) → unseen_breaks defs rows row other ≡ true
    → number_of (unseen_update defs rows row) ≤ number_of other

-- a step that breaks a rule on steps is answered by it, whether changes wait or not
abbrev pub CaptureComesLast : Type 0
CaptureComesLast = (defs : List TableDef) (overflow : RowStep → Bool) (rows : List TableRow)
    (step : RowStep) (rule : Rule) → broken_rule defs rows step ≡ Some rule
    → by_step_rules defs overflow rows (Apply step) ≡ Broken rule

-- a batch's row that lacks an old value for a sum is answered so, whatever the resolution
abbrev pub MissingOldComesFirst : Type 0
MissingOldComesFirst = (defs : List TableDef) (setting : Option ConflictDef)
    (rows : List TableRow) (row : LoadRow) → lacks_addend row ≡ true
    → resolution_of defs setting rows row ≡ Broken OldMissing
