-- A world stays in step, whatever happens in it.
use Rattle.std.specs.Prelude.{◌≡◌, ℕ, List, [], ◌∷◌, None}
use Rattle.sds_types.specs.declared.config.Config.{Config}
use Rattle.sds_types.specs.declared.world_event.WorldEvent.{WorldEvent}
use Rattle.sds_types.specs.declared.world_event.WorldEvent.TheVariants as event
use Rattle.sds_trade.specs.rules.Sound.{IsSound}
use Rattle.sds_history.specs.world.InStep.{InStep}
use Rattle.sds_history.specs.world.Worlds.{World, node_at}
use Rattle.sds_worldlaws.specs.Nodes.{world_after}

-- a node that comes has an id that no node has
abbrev pub IsNew : World → WorldEvent → Type 0
IsNew world (event.Node me) = node_at world me.id ≡ None
IsNew world other = Unit {0}

abbrev pub AreNew : Config → List ℕ → List WorldEvent → Type 0
AreNew config noise [] = Unit {0}
AreNew config noise (event ∷ older) =
    IsNew (world_after config noise older) event × AreNew config noise older

-- under a sound configuration, after any list of events in which each new node has an id of its
-- own: what each node loaded of another in a channel is the first of what that node made for it,
-- each batch once, in order, as the receiver reads it; no more is acknowledged than is loaded;
-- every message and every reply fits both; and an error is at the next batch
abbrev pub WorldsStayInStep : Type 0
WorldsStayInStep = (config : Config) → IsSound config → (noise : List ℕ)
    (events : List WorldEvent) → AreNew config noise events
    → InStep config (world_after config noise events)
