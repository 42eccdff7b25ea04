-- The steps of an asked call's act fit, so its edits make the image of the state after it.
use Rattle.std.proofs.Common.{◌≡◌, List, Option, None, Some, get_or}
use Rattle.std.specs.Prelude.{IfSome}
use Rattle.std.specs.List.{zip}
use Rattle.sds_value.specs.declared.kind.Value.{Value}
use Rattle.sds_value.specs.declared.table.ColumnDef.{ColumnDef}
use Rattle.sds_value.specs.declared.table.TableDef.{TableDef}
use Rattle.sds_value.specs.Values.{fits}
use Rattle.sds_types.specs.declared.config.Config.{Config}
use Rattle.sds_types.specs.declared.row.Row.{Row}
use Rattle.sds_trade.specs.rules.Captured.{Done}
use Rattle.sds_trade.specs.rules.Fitting.{FitColumns}
use Rattle.sds_trade.specs.rules.Places.{columns_at}
use Rattle.sds_trade.specs.rules.Sound.{IsSound}
use Rattle.sds_trade.specs.rules.Steps.{new_row, table_of}
use Rattle.sds_trade.specs.rules.Tables.{IsRowOf, is_null}
use Rattle.sds_history.specs.history.Acts.{Act, State}
use Rattle.sds_history.specs.history.SoundStates.{IsSoundState}
use Rattle.sds_nodelaws.specs.Asked.{IsAsked}
use Rattle.sds_nodelaws.specs.Calls.{Call, act_of}
use Rattle.sds_nodelaws.proofs.AskedActs.{asked_due}
use Rattle.sds_nodelaws.proofs.SoundActs.{calls_keep_states_sound}
use Rattle.sds_nodelaws.proofs.SoundTables.{steps_done}
use Rattle.sds_nodelaws.proofs.TableRuns.{IsDone}
use Rattle.sds_imagelaws.specs.Edits.{made_steps}
use Rattle.sds_imagelaws.specs.Images.{AskedCallsMakeImages, PutsFit, StepsFit}
use Rattle.sds_imagelaws.proofs.Images.{edits_make_images, held_suits}

-- a row of a table has values of its columns
pub row_fits : (columns : List ColumnDef) (row : Row) → IsRowOf columns row → FitColumns columns row.0
row_fits columns row held = record {
  whole = held.whole;
  each = λ k d within.
      let at : ColumnDef × Value = get_or (zip columns row.0) k d in
      held_suits (is_null at.1) _ (fits at.0.kind at.1) (held.held k d within);
}

pub side_fits : (columns : List ColumnDef) (side : Option Row) → IfSome side (IsRowOf columns) → IfSome side (λ (row : Row). FitColumns columns row.0)
side_fits columns None held = tt
side_fits columns (Some row) held = row_fits columns row held

step_fits : (defs : List TableDef) (done : Done) → IsDone defs done → PutsFit defs done.step
step_fits defs done is = (is.there, side_fits (columns_at defs (table_of done.step)) (new_row done.step) is.made)

pub steps_fit : (config : Config) (state : State) (call : Call) (act : Act) → IsSound config → IsSoundState config state → IsAsked config state call
    → act_of config state call ≡ Some act → StepsFit config state act
steps_fit config state call act sound before asked is k d within =
    step_fits config.tables (get_or (made_steps config state act) k d)
    (steps_done config state act sound before.tables (asked_due config state call act sound before asked is) k d within)

pub asked_calls_make_images : AskedCallsMakeImages
asked_calls_make_images config state call act sound before asked is =
    edits_make_images config state act sound before (calls_keep_states_sound config sound state before call asked act is)
    (steps_fit config state call act sound before asked is)
