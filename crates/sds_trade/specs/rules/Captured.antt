-- Which steps are captured, and the changes that they become.
use Rattle.std.specs.Prelude.{ℕ, Bool, true, false, ◌&&◌, ◌||◌, ◌==◌, not, nat_le, List, map, Option, None, Some, is_some, option_map, option_and_then, slice_get}
use Rattle.std.specs.List.{enumerate_from, filter_map, find, list_any}
use Rattle.std.specs.Option.{option_map_or}
use Rattle.std.specs.Str.{bytes_eq}
use Rattle.sds_value.specs.declared.row.Event.{Event}
use Rattle.sds_value.specs.declared.row.Event.TheVariants.{Insert, Update, Delete}
use Rattle.sds_types.specs.Limits.{most_unrouted_changes}
use Rattle.sds_types.specs.declared.config.Config.{Config}
use Rattle.sds_types.specs.declared.router.RouterDef.{RouterDef}
use Rattle.sds_types.specs.declared.row.Change.{Change}
use Rattle.sds_types.specs.declared.row.Row.{Row}
use Rattle.sds_types.specs.declared.row.RowStep.{RowStep}
use Rattle.sds_types.specs.declared.trigger.TriggerDef.{TriggerDef}
use Rattle.sds_types.specs.declared.trigger.TriggerRouterDef.{TriggerRouterDef}
use Rattle.sds_trade.specs.rules.Places.{group_name}
use Rattle.sds_trade.specs.rules.Steps.{event_of, table_of, new_row}

-- a step that was made, with the row that stood before it
pub record Done : Type 0 where
  pub step : RowStep
  pub old : Option Row

-- the trigger that stands on the table at a place, with its own place
abbrev pub trigger_on : Config → ℕ → Option (ℕ × TriggerDef)
trigger_on config table =
    find (λ (at : ℕ × TriggerDef). at.1.source_table == table) (enumerate_from 0 config.triggers)

-- a trigger captures an event
abbrev pub syncs_on : TriggerDef → Event → Bool
syncs_on trigger Insert = trigger.sync_on_insert
syncs_on trigger Update = trigger.sync_on_update
syncs_on trigger Delete = trigger.sync_on_delete

-- the router at a place leads from a group
abbrev pub leads_from : Config → List ℕ → ℕ → Bool
leads_from config group router =
    option_map_or (λ (def : RouterDef). bytes_eq (group_name config.groups def.source_group) group)
    (slice_get config.routers router) false

-- an enabled trigger-router joins the trigger at a place to a router that leads from a group
abbrev pub is_joined : Config → List ℕ → ℕ → Bool
is_joined config group trigger =
    list_any (λ (join : TriggerRouterDef).
    join.enabled && (join.trigger == trigger && leads_from config group join.router))
    config.trigger_routers

-- a trigger with its place captures a step at a node of a group; `incoming`: a batch brought it
abbrev pub captures : Config → List ℕ → Bool → RowStep → ℕ × TriggerDef → Bool
captures config group incoming step at = syncs_on at.1 (event_of step)
    && ((not incoming || at.1.sync_on_incoming_batch) && is_joined config group at.0)

-- the channel of the change that a step becomes at a node of a group, or none where it becomes none
abbrev pub captured_channel : Config → List ℕ → Bool → RowStep → Option ℕ
captured_channel config group incoming step =
    option_and_then (λ (at : ℕ × TriggerDef).
    elim (captures config group incoming step at) [ true ↦ Some at.1.channel | false ↦ None ])
    (trigger_on config (table_of step))

-- a step would be captured where too many changes stood unrouted before its transaction
abbrev pub overflows : Config → List ℕ → Bool → ℕ → RowStep → Bool
overflows config group incoming waiting step =
    nat_le most_unrouted_changes waiting && is_some (captured_channel config group incoming step)

-- the change of a step, but for its number; `source` is the node whose batch brought it
abbrev pub change_in : ℕ → Option (List ℕ) → Done → ℕ → Change
change_in tx source done channel = record {
  id = 0;
  tx = tx;
  table = table_of done.step;
  event = event_of done.step;
  new = new_row done.step;
  old = done.old;
  channel = channel;
  source = source;
}

-- the change of a step at a node of a group, but for its number, or none where none captures it
abbrev pub change_of : Config → List ℕ → ℕ → Option (List ℕ) → Done → Option Change
change_of config group tx source done =
    option_map (change_in tx source done)
    (captured_channel config group (is_some source) done.step)

-- a change with its number
abbrev pub numbered_change : ℕ × Change → Change
numbered_change at = record at.1 { id = at.0 }

-- the changes of a transaction's steps: those that are captured, with consecutive numbers
abbrev pub changes_of : Config → List ℕ → ℕ → ℕ → Option (List ℕ) → List Done → List Change
changes_of config group first tx source dones =
    map numbered_change (enumerate_from first (filter_map (change_of config group tx source) dones))
