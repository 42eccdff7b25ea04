-- Laws of runs: what is accepted keeps the tables sound, what is refused or ignored leaves them.
use Rattle.std.specs.Prelude.{◌≡◌, ℕ, List, [], ◌∷◌}
use Rattle.sds_value.specs.declared.table.TableDef.{TableDef}
use Rattle.sds_types.specs.declared.config.Config.{Config}
use Rattle.sds_types.specs.declared.prepared.Prepared.{Prepared}
use Rattle.sds_types.specs.declared.row.TableRow.{TableRow}
use Rattle.sds_types.specs.declared.rule.Rule.{Rule}
use Rattle.sds_types.specs.declared.tx_row.TxRow.{TxRow}
use Rattle.sds_trade.specs.rules.Captured.{Done}
use Rattle.sds_trade.specs.rules.Outcomes.{outcome_of_batch}
use Rattle.sds_trade.specs.rules.OwnWrites.{outcome_of_write}
use Rattle.sds_trade.specs.rules.Runs.{RunEnd}
use Rattle.sds_trade.specs.rules.Runs.RunEnd.{Made, Ignored, Refused}
use Rattle.sds_trade.specs.rules.Steps.{rows_after}
use Rattle.sds_trade.specs.rules.Tables.{Ascend, ReferencesHold}

-- the tables that stand after a run that ends so
abbrev pub rows_left : List TableRow → RunEnd → List TableRow
rows_left rows (Made dones after) = after
rows_left rows Ignored = rows
rows_left rows (Refused number rule) = rows

-- after a refusal, and after an ignored batch, they are those before
abbrev pub RefusedWriteLeavesTables : Type 0
RefusedWriteLeavesTables = (config : Config) (group : List ℕ) (waiting : ℕ) (rows : List TableRow)
    (tx : List TxRow) (number : ℕ) (rule : Rule)
    → outcome_of_write config group waiting rows tx ≡ Refused number rule
    → rows_left rows (outcome_of_write config group waiting rows tx) ≡ rows

abbrev pub RefusedBatchLeavesTables : Type 0
RefusedBatchLeavesTables = (config : Config) (group : List ℕ) (waiting : ℕ) (rows : List TableRow)
    (batch : Prepared) (number : ℕ) (rule : Rule)
    → outcome_of_batch config group waiting rows batch ≡ Refused number rule
    → rows_left rows (outcome_of_batch config group waiting rows batch) ≡ rows

abbrev pub IgnoredBatchLeavesTables : Type 0
IgnoredBatchLeavesTables = (config : Config) (group : List ℕ) (waiting : ℕ) (rows : List TableRow)
    (batch : Prepared) → outcome_of_batch config group waiting rows batch ≡ Ignored
    → rows_left rows (outcome_of_batch config group waiting rows batch) ≡ rows

-- the tables after an accepted write or batch are those that its steps make, one after another
abbrev pub rows_after_all : List TableDef → List TableRow → List Done → List TableRow
rows_after_all defs rows [] = rows
rows_after_all defs rows (done ∷ dones) =
    rows_after_all defs (rows_after defs rows done.step) dones

abbrev pub WritesGoByStep : Type 0
WritesGoByStep = (config : Config) (group : List ℕ) (waiting : ℕ) (rows after : List TableRow)
    (tx : List TxRow) (dones : List Done)
    → outcome_of_write config group waiting rows tx ≡ Made dones after
    → after ≡ rows_after_all config.tables rows dones

abbrev pub BatchesGoByStep : Type 0
BatchesGoByStep = (config : Config) (group : List ℕ) (waiting : ℕ) (rows after : List TableRow)
    (batch : Prepared) (dones : List Done)
    → outcome_of_batch config group waiting rows batch ≡ Made dones after
    → after ≡ rows_after_all config.tables rows dones

-- and in them the rows ascend and the references hold, where they did so before
abbrev pub Stand : Config → List TableRow → Type 0
Stand config rows = Ascend config.tables rows × ReferencesHold config.tables rows

abbrev pub WritesKeepTables : Type 0
WritesKeepTables = (config : Config) (group : List ℕ) (waiting : ℕ) (rows after : List TableRow)
    (tx : List TxRow) (dones : List Done)
    → outcome_of_write config group waiting rows tx ≡ Made dones after
    → Stand config rows → Stand config after

abbrev pub BatchesKeepTables : Type 0
BatchesKeepTables = (config : Config) (group : List ℕ) (waiting : ℕ) (rows after : List TableRow)
    (batch : Prepared) (dones : List Done)
    → outcome_of_batch config group waiting rows batch ≡ Made dones after
    → Stand config rows → Stand config after
