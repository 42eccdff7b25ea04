-- What holds of each node of a world after any list of events.
use Rattle.std.specs.Prelude.{ℕ, List, [], ◌∷◌}
use Rattle.std.specs.List.{All}
use Rattle.sds_types.specs.declared.config.Config.{Config}
use Rattle.sds_types.specs.declared.world_event.WorldEvent.{WorldEvent}
use Rattle.sds_trade.specs.rules.Sound.{IsSound}
use Rattle.sds_history.specs.world.Events.{happened}
use Rattle.sds_history.specs.world.InStep.{RoutedOnce, WritesCount}
use Rattle.sds_history.specs.world.Worlds.{World, empty_world}

-- the world after events, the newest first: new nodes, openings, registrations, writes, routing
-- runs, messages that are sent, delivered in any order, again or never, replies, pushes, pulls,
-- crashes, and commits that fail before they stand or after
abbrev pub world_after : Config → List ℕ → List WorldEvent → World
world_after config noise [] = empty_world
world_after config noise (event ∷ older) =
    (happened config noise (world_after config noise older) event).world

-- each writer's writes at each node count 1, 2, 3 and so on
abbrev pub WritesCountEverywhere : Type 0
WritesCountEverywhere = (config : Config) (noise : List ℕ) (events : List WorldEvent)
    → All (WritesCount config) (world_after config noise events).nodes

-- each change that a routing run took at a node stands in one batch to each peer that it was for
abbrev pub RoutedOnceEverywhere : Type 0
RoutedOnceEverywhere = (config : Config) → IsSound config → (noise : List ℕ)
    (events : List WorldEvent) → All (RoutedOnce config) (world_after config noise events).nodes
