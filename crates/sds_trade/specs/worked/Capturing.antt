-- Worked cases: which steps are captured, and the changes that they become.
use Rattle.std.specs.Prelude.{◌≡◌, ℕ, Bool, true, false, List, [], ◌∷◌, Option, None, Some, codes}
use Rattle.sds_value.specs.declared.row.Event.TheVariants.{Insert, Delete}
use Rattle.sds_types.specs.declared.config.Config.{Config}
use Rattle.sds_types.specs.declared.row.Key.{Key}
use Rattle.sds_types.specs.declared.row.RowStep.{RowStep}
use Rattle.sds_types.specs.declared.row.RowStep.TheVariants as step
use Rattle.sds_types.specs.declared.trigger.TriggerDef.{TriggerDef}
use Rattle.sds_trade.specs.rules.Captured.{Done, captured_channel, changes_of}
use Rattle.sds_trade.specs.worked.Entries.{join_of, number, trigger_def}
use Rattle.sds_trade.specs.worked.Shop.{shop, pen, stock_of}
use Rattle.sds_trade.specs.worked.Tiers.{tiers_with}

abbrev pub first_key : Key
first_key = record { 0 = number 1 ∷ [] }

abbrev pub put_pen : RowStep
put_pen = step.Insert 0 pen.row

abbrev pub update_pen : RowStep
update_pen = step.Update 0 first_key pen.row

abbrev pub delete_pen : RowStep
delete_pen = step.Delete 0 first_key

abbrev pub put_stock : RowStep
put_stock = step.Insert 1 (stock_of 1 5).row

-- the channel at a node of a group, of an own step or of one that a batch brought
abbrev pub Goes : Config → List ℕ → Bool → RowStep → Option ℕ → Type 0
Goes config group incoming made channel = captured_channel config group incoming made ≡ channel

-- items are captured at corp, stock at a store; what a batch brings is captured in the tiers alone
abbrev pub GroupsCapture : Type 0
GroupsCapture = Goes shop (codes "corp") false put_pen (Some 0)
    × Goes shop (codes "store") false put_pen None
    × Goes shop (codes "corp") false put_stock None
    × Goes shop (codes "store") false put_stock (Some 1)
    × Goes shop (codes "corp") true put_pen None
    × Goes (tiers_with false) (codes "region") true put_pen (Some 0)

-- at corp an item's step is captured by this trigger, or not
abbrev pub item_trigger : TriggerDef
item_trigger = trigger_def (codes "item") 0

abbrev pub Catches : TriggerDef → RowStep → Option ℕ → Type 0
Catches trigger made channel =
    Goes (record shop { triggers = trigger ∷ [] }) (codes "corp") false made channel

-- a trigger that doesn't capture one of the events, and one that a disabled trigger-router joins
abbrev pub EventsCapture : Type 0
EventsCapture = Catches (record item_trigger { sync_on_insert = false }) put_pen None
    × Catches (record item_trigger { sync_on_update = false }) put_pen (Some 0)
    × Catches (record item_trigger { sync_on_update = false }) update_pen None
    × Catches (record item_trigger { sync_on_delete = false }) update_pen (Some 0)
    × Catches (record item_trigger { sync_on_delete = false }) delete_pen None
    × Catches (record item_trigger { sync_on_insert = false }) delete_pen (Some 0)
    × Goes (record shop { trigger_routers = record (join_of 0 0) { enabled = false } ∷ [] })
    (codes "corp") false put_pen None

-- of three steps at corp two are captured, and have consecutive numbers
abbrev pub three_steps : List Done
three_steps = record { step = put_pen; old = None }
    ∷ (record { step = put_stock; old = None }
    ∷ (record { step = delete_pen; old = Some pen.row } ∷ []))

abbrev pub ChangesAreNumbered : Type 0
ChangesAreNumbered = changes_of shop (codes "corp") 5 3 None three_steps
    ≡ record {
      id = 5;
      tx = 3;
      table = 0;
      event = Insert;
      new = Some pen.row;
      old = None;
      channel = 0;
      source = None;
    } ∷ (record {
      id = 6;
      tx = 3;
      table = 0;
      event = Delete;
      new = None;
      old = Some pen.row;
      channel = 0;
      source = None;
    } ∷ [])
