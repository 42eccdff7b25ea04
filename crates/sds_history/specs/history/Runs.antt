-- The acts with how each ended that ran rows over the tables, the newest first.
use Rattle.std.specs.Prelude.{ℕ, ◌+◌, List, [], ◌∷◌, length, Option, None, Some}
use Rattle.sds_types.specs.declared.config.Config.{Config}
use Rattle.sds_types.specs.declared.row.Change.{Change}
use Rattle.sds_types.specs.declared.row.TableRow.{TableRow}
use Rattle.sds_trade.specs.rules.Captured.{Done, changes_of}
use Rattle.sds_trade.specs.rules.Runs.{RunEnd}
use Rattle.sds_trade.specs.rules.Runs.RunEnd.{Made, Ignored, Refused}
use Rattle.sds_history.specs.history.Acts.{Act, State}
use Rattle.sds_history.specs.history.Acts.Act.{Wrote, Routed, Loaded}

-- an act, and how its rows ended if it is a write or a load
pub record Run : Type 0 where
  pub act : Act
  pub end : Option RunEnd

-- the steps that a run made, and the tables after it
abbrev pub dones_of : Option RunEnd → List Done
dones_of None = []
dones_of (Some (Made dones rows)) = dones
dones_of (Some Ignored) = []
dones_of (Some (Refused number rule)) = []

abbrev pub rows_after_run : List TableRow → Option RunEnd → List TableRow
rows_after_run rows None = rows
rows_after_run rows (Some (Made dones after)) = after
rows_after_run rows (Some Ignored) = rows
rows_after_run rows (Some (Refused number rule)) = rows

-- the tables that runs leave: those of the last that made steps
abbrev pub tables_after : State → List Run → List TableRow
tables_after opening [] = opening.tables
tables_after opening (run ∷ older) = rows_after_run (tables_after opening older) run.end

-- the node whose batch an act loaded
abbrev pub source_of : Act → Option (List ℕ)
source_of (Loaded channel batch) = Some batch.from
source_of act = None

-- each write and each load is a transaction
abbrev pub tx_in : Act → ℕ
tx_in (Wrote writer number rows) = 1
tx_in (Loaded channel batch) = 1
tx_in act = 0

abbrev pub last_tx_after : State → List Run → ℕ
last_tx_after opening [] = opening.counts.last_tx
last_tx_after opening (run ∷ older) = last_tx_after opening older + tx_in run.act

-- the changes that a run captured, of which the first would have this number
abbrev pub captured_in : Config → State → ℕ → ℕ → Run → List Change
captured_in config opening first tx run =
    changes_of config opening.me.group first tx (source_of run.act) (dones_of run.end)

-- how many changes were captured since the opening
abbrev pub captured_count : Config → State → List Run → ℕ
captured_count config opening [] = 0
captured_count config opening (run ∷ older) =
    captured_count config opening older + length (captured_in config opening 0 0 run)

abbrev pub last_change_after : Config → State → List Run → ℕ
last_change_after config opening runs =
    opening.counts.last_change + captured_count config opening runs

-- the last change at the last routing run
abbrev pub mark_by : Act → ℕ → ℕ → ℕ
mark_by Routed last mark = last
mark_by act last mark = mark

abbrev pub mark_after : Config → State → List Run → ℕ
mark_after config opening [] = opening.counts.routed
mark_after config opening (run ∷ older) =
    mark_by run.act (last_change_after config opening older) (mark_after config opening older)
