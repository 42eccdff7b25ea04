-- Where a scenario is: the world so far, and the write whose rows are being read.
use Rattle.std.specs.Prelude.{ℕ, List, [], ◌∷◌, ◌++◌, Option, None, Some, option_map}
use Rattle.std.specs.List.{filter_map}
use Rattle.sds_types.specs.declared.config.Config.{Config}
use Rattle.sds_types.specs.declared.scenario.ScenarioLine.{ScenarioLine}
use Rattle.sds_types.specs.declared.scenario.ScenarioLine.TheVariants as line
use Rattle.sds_types.specs.declared.tx_row.TxRow.{TxRow}
use Rattle.sds_types.specs.declared.world_event.WorldEvent.{WorldEvent}
use Rattle.sds_types.specs.declared.world_event.WorldEvent.TheVariants as event
use Rattle.sds_trade.specs.rules.Outcomes.{channel_place}
use Rattle.sds_history.specs.world.Worlds.{World, empty_world}

-- a write that has begun, with its rows so far
pub record Draft : Type 0 where
  pub node : List ℕ
  pub writer : List ℕ
  pub number : ℕ
  pub rows : List TxRow

pub record Scene : Type 0 where
  pub world : World
  pub draft : Option Draft

abbrev pub first_scene : Scene
first_scene = record { world = empty_world; draft = None }

-- the places of channels
abbrev pub channel_places : Config → List (List ℕ) → List ℕ
channel_places config names = filter_map (channel_place config) names

abbrev pub write_event : Draft → WorldEvent
write_event draft = event.Write draft.node draft.writer draft.number draft.rows

-- the event that a line makes happen: a write happens at its end
abbrev pub event_at : Config → Option Draft → ScenarioLine → Option WorldEvent
event_at config draft (line.Node me) = Some (event.Node me)
event_at config draft (line.Open at group external) = Some (event.Open at group external)
event_at config draft (line.Register asks at) = Some (event.Register asks at)
event_at config draft (line.Write node writer number) = None
event_at config draft (line.Row row) = None
event_at config draft line.End = option_map write_event draft
event_at config draft (line.Route node) = Some (event.Route node)
event_at config draft (line.Send from to channels) =
    Some (event.Send from to (channel_places config channels))
event_at config draft (line.Deliver message channels) =
    Some (event.Deliver message (channel_places config channels))
event_at config draft (line.Answer reply) = Some (event.Answer reply)
event_at config draft (line.Push from to) = Some (event.Push from to)
event_at config draft (line.Pull to from) = Some (event.Pull to from)
event_at config draft (line.Wire message) = Some (event.Wire message)
event_at config draft (line.Show node) = Some (event.Show node)
event_at config draft (line.Batches node) = Some (event.Batches node)
event_at config draft (line.Crash node) = Some (event.Crash node)
event_at config draft (line.Fault node stands) = Some (event.Fault node stands)

abbrev pub with_draft_row : TxRow → Draft → Draft
with_draft_row row draft = record draft { rows = draft.rows ++ row ∷ [] }

-- the write that is being read after a line
abbrev pub draft_after : Option Draft → ScenarioLine → Option Draft
draft_after draft (line.Write node writer number) =
    Some (record { node = node; writer = writer; number = number; rows = [] })
draft_after draft (line.Row row) = option_map (with_draft_row row) draft
draft_after draft other = None
