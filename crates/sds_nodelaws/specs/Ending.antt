-- What accepted writes and loaded batches made of a node's tables.
use Rattle.std.specs.Prelude.{◌≡◌, Bool, true, false, List, [], ◌∷◌, ◌++◌, map, Option, None, Some}
use Rattle.std.specs.List.{All, fold}
use Rattle.sds_value.specs.declared.row.Peer.{Peer}
use Rattle.sds_types.specs.declared.config.Config.{Config}
use Rattle.sds_types.specs.declared.row.RowStep.{RowStep}
use Rattle.sds_trade.specs.rules.Captured.{Done}
use Rattle.sds_trade.specs.rules.Runs.{RunEnd}
use Rattle.sds_trade.specs.rules.Runs.RunEnd.{Made, Ignored, Refused}
use Rattle.sds_trade.specs.rules.Steps.{rows_after}
use Rattle.sds_history.specs.history.Acts.{History}
use Rattle.sds_history.specs.history.Changes.{runs_after}
use Rattle.sds_history.specs.history.Runs.{Run, dones_of}
use Rattle.sds_history.specs.history.States.{state_of}
use Rattle.sds_nodelaws.specs.Calls.{Call, begun, called_all}

-- the steps that a history's writes and loads made, in the order of its commits
abbrev pub steps_of : List Run → List RowStep
steps_of [] = []
steps_of (run ∷ older) =
    steps_of older ++ map (λ (done : Done). done.step) (dones_of run.end)

-- how each act of a history ended
abbrev pub runs_of : Config → History → List Run
runs_of config history = runs_after config history.opening history.acts

-- the tables are those of the opening with these steps made, one after another
abbrev pub TablesAreSteps : Type 0
TablesAreSteps = (config : Config) (history : History) → (state_of config history).tables
    ≡ fold (rows_after config.tables) history.opening.tables
    (steps_of (runs_of config history))

-- no row of a write or a load broke a rule
abbrev pub is_refused : Option RunEnd → Bool
is_refused None = false
is_refused (Some (Made dones rows)) = false
is_refused (Some Ignored) = false
is_refused (Some (Refused number rule)) = true

abbrev pub EndsWell : Run → Type 0
EndsWell run = is_refused run.end ≡ false

-- what a node accepted was made whole
abbrev pub AcceptedEndWell : Type 0
AcceptedEndWell = (config : Config) (me : Peer) (calls : List Call)
    → All EndsWell (runs_of config (called_all config (begun me) calls))
