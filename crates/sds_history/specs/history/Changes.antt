-- The runs of a history, and the changes that were captured.
use Rattle.std.specs.Prelude.{ℕ, ◌+◌, ◌-◌, nat_lt, List, [], ◌∷◌, ◌++◌, Option, None, Some}
use Rattle.std.specs.List.{filter}
use Rattle.sds_types.specs.declared.config.Config.{Config}
use Rattle.sds_types.specs.declared.row.Change.{Change}
use Rattle.sds_types.specs.declared.row.TableRow.{TableRow}
use Rattle.sds_trade.specs.rules.Outcomes.{outcome_of_batch}
use Rattle.sds_trade.specs.rules.OwnWrites.{outcome_of_write}
use Rattle.sds_trade.specs.rules.Runs.{RunEnd}
use Rattle.sds_history.specs.history.Acts.{Act, State}
use Rattle.sds_history.specs.history.Acts.Act.{Wrote, Loaded}
use Rattle.sds_history.specs.history.Runs.{Run, captured_in, last_change_after, last_tx_after, mark_after, tables_after}

-- how many changes wait to be routed
abbrev pub waiting_after : Config → State → List Run → ℕ
waiting_after config opening runs =
    last_change_after config opening runs - mark_after config opening runs

-- how the rows of an act end where certain rows stand and so many changes wait
abbrev pub run_end_of : Config → State → ℕ → List TableRow → Act → Option RunEnd
run_end_of config opening waiting rows (Wrote writer number tx) =
    Some (outcome_of_write config opening.me.group waiting rows tx)
run_end_of config opening waiting rows (Loaded channel batch) =
    Some (outcome_of_batch config opening.me.group waiting rows batch)
run_end_of config opening waiting rows act = None

abbrev pub run_after : Config → State → List Run → Act → Run
run_after config opening runs act = record {
  act = act;
  end = run_end_of config opening (waiting_after config opening runs)
      (tables_after opening runs) act;
}

-- the acts with how each ended: each over the tables, and with the changes that wait, that those
-- before it left
abbrev pub runs_after : Config → State → List Act → List Run
runs_after config opening [] = []
runs_after config opening (act ∷ older) =
    let runs = runs_after config opening older in run_after config opening runs act ∷ runs

-- the changes of the opening, then those that each run captured, with consecutive numbers
abbrev pub changes_after : Config → State → List Run → List Change
changes_after config opening [] = opening.changes
changes_after config opening (run ∷ older) = changes_after config opening older
    ++ captured_in config opening (last_change_after config opening older + 1)
    (last_tx_after opening older + 1) run

-- the changes since the last routing run
abbrev pub unrouted_after : Config → State → List Run → List Change
unrouted_after config opening runs =
    filter (λ (change : Change). nat_lt (mark_after config opening runs) change.id)
    (changes_after config opening runs)
