-- Laws of the tables: keys stand apart and references hold, after every step.
use Rattle.std.specs.Prelude.{◌≡◌, false, List, None}
use Rattle.std.specs.List.{AllPairs}
use Rattle.sds_value.specs.declared.table.TableDef.{TableDef}
use Rattle.sds_types.specs.declared.row.RowStep.{RowStep}
use Rattle.sds_types.specs.declared.row.TableRow.{TableRow}
use Rattle.sds_trade.specs.rules.StepRules.{broken_rule}
use Rattle.sds_trade.specs.rules.Steps.{rows_after}
use Rattle.sds_trade.specs.rules.Tables.{key_of, is_at, Ascend, ReferencesHold}

-- no two rows of one table have one key
abbrev pub KeysApart : List TableDef → List TableRow → Type 0
KeysApart defs rows = AllPairs
    (λ (a b : TableRow). is_at defs b.table (key_of defs b.table b.row) a ≡ false) rows

abbrev pub AscendingKeysAreApart : Type 0
AscendingKeysAreApart = (defs : List TableDef) (rows : List TableRow)
    → Ascend defs rows → KeysApart defs rows

-- after every step the rows ascend
abbrev pub StepsKeepOrder : Type 0
StepsKeepOrder = (defs : List TableDef) (rows : List TableRow) (step : RowStep)
    → Ascend defs rows → Ascend defs (rows_after defs rows step)

-- after every step that breaks no rule the references hold
abbrev pub StepsKeepReferences : Type 0
StepsKeepReferences = (defs : List TableDef) (rows : List TableRow) (step : RowStep)
    → broken_rule defs rows step ≡ None
    → ReferencesHold defs rows → ReferencesHold defs (rows_after defs rows step)
