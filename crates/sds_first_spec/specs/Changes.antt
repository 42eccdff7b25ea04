-- Which steps are captured, and the changes that they become.
use Rattle.std.specs.Prelude.{ℕ, ◌+◌, Bool, true, false, ◌&&◌, ◌||◌, ◌==◌, if◌then◌else◌, List, [], ◌∷◌, Option, None, Some, slice_get}
use Rattle.std.specs.List.{list_any}
use Rattle.std.specs.Option.{option_map_or}
use Rattle.std.specs.Str.{bytes_eq}
use Rattle.sds_value.specs.declared.row.Event.{Event}
use Rattle.sds_value.specs.declared.row.Event.TheVariants as event
use Rattle.sds_types.specs.declared.config.Config.{Config}
use Rattle.sds_types.specs.declared.router.RouterDef.{RouterDef}
use Rattle.sds_types.specs.declared.trigger.TriggerDef.{TriggerDef}
use Rattle.sds_types.specs.declared.trigger.TriggerRouterDef.{TriggerRouterDef}
use Rattle.sds_types.specs.declared.row.Change.{Change}
use Rattle.sds_first_spec.specs.declared.row.Done.{Done}
use Rattle.sds_types.specs.declared.row.Row.{Row}
use Rattle.sds_types.specs.declared.row.RowStep.{RowStep}
use Rattle.sds_types.specs.declared.row.RowStep.TheVariants.{Insert, Update, Delete}
use Rattle.sds_first_spec.specs.Places.{group_name}

-- what really happened: an insert that became an update is an update
abbrev pub event_of : RowStep → Event
event_of (Insert table row) = event.Insert
event_of (Update table key row) = event.Update
event_of (Delete table key) = event.Delete

abbrev pub table_of : RowStep → ℕ
table_of (Insert table row) = table
table_of (Update table key row) = table
table_of (Delete table key) = table

abbrev pub new_row : RowStep → Option Row
new_row (Insert table row) = Some row
new_row (Update table key row) = Some row
new_row (Delete table key) = None

-- whether a trigger captures this event
abbrev pub syncs : TriggerDef → Event → Bool
syncs trigger event.Insert = trigger.sync_on_insert
syncs trigger event.Update = trigger.sync_on_update
syncs trigger event.Delete = trigger.sync_on_delete

-- whether the router at a place applies at the nodes of a group
abbrev pub leads_from : Config → ℕ → List ℕ → Bool
leads_from config router group = option_map_or (λ (def : RouterDef). bytes_eq group (group_name config def.source_group)) (slice_get config.routers router) false

-- whether an enabled trigger-router joins the trigger at a place to a router of the group
abbrev pub is_joined : Config → List ℕ → ℕ → Bool
is_joined config group trigger =
    list_any (λ (join : TriggerRouterDef). join.trigger == trigger && (join.enabled && leads_from config join.router group)) config.trigger_routers

-- by the first of these triggers, whose places begin at n, that stands on the step's table
abbrev pub channel_by : Config → List ℕ → Bool → RowStep → ℕ → List TriggerDef → Option ℕ
channel_by config group is_own step n [] = None
channel_by config group is_own step n (trigger ∷ triggers) =
    if trigger.source_table == table_of step then
    (if syncs trigger (event_of step) && ((is_own || trigger.sync_on_incoming_batch) && is_joined config group n) then Some trigger.channel else None)
    else channel_by config group is_own step (n + 1) triggers

-- the channel of a step at a node of a group, or none where the step isn't captured
abbrev pub captured_channel : Config → List ℕ → Bool → RowStep → Option ℕ
captured_channel config group is_own step = channel_by config group is_own step 0 config.triggers

abbrev pub change_of : ℕ → ℕ → Option (List ℕ) → ℕ → Done → Change
change_of id tx source channel done =
    record { id = id; tx = tx; table = table_of done.step; event = event_of done.step; new = new_row done.step; old = done.old; channel = channel; source = source }

abbrev pub is_own_source : Option (List ℕ) → Bool
is_own_source None = true
is_own_source (Some source) = false

abbrev pub onto_changes : Option ℕ → ℕ → ℕ → Option (List ℕ) → Done → List Change → List Change → List Change
onto_changes None id tx source done without more = without
onto_changes (Some channel) id tx source done without more = change_of id tx source channel done ∷ more

-- the changes of these steps of one transaction, with consecutive numbers from id on
abbrev pub changes_from : Config → List ℕ → Option (List ℕ) → ℕ → ℕ → List Done → List Change
changes_from config group source id tx [] = []
changes_from config group source id tx (done ∷ dones) =
    onto_changes (captured_channel config group (is_own_source source) done.step) id tx source done
    (changes_from config group source id tx dones) (changes_from config group source (id + 1) tx dones)
