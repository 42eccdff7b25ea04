-- A stage plays a world: its nodes stand for those of the world.
use Rattle.std.specs.Prelude.{◌≡◌, ℕ, List, ◌++◌}
use Rattle.std.specs.List.{All, AllPairs}
use Rattle.sds_outside.specs.MemKeeping.{IsKeptOpen, kept_told}
use Rattle.sds_outside.specs.declared.mem_keeper.MemKeeper.{MemKeeper}
use Rattle.sds_types.specs.declared.config.Config.{Config}
use Rattle.sds_types.specs.declared.world_event.WorldEvent.{WorldEvent}
use Rattle.sds_trade.specs.rules.Sound.{IsSound}
use Rattle.sds_history.specs.world.Events.{happened}
use Rattle.sds_history.specs.world.Happened.{Happened}
use Rattle.sds_history.specs.world.Worlds.{World}
use Rattle.sds_node.specs.Meaning.{IsNode}
use Rattle.sds_node.specs.declared.node.Node.{Node}
use Rattle.sds_screen.specs.Screen.{text_of_happened}
use Rattle.sds_stage.specs.Placed.{AreApart}
use Rattle.sds_stage.specs.Standing.{AllStand}
use Rattle.sds_stage.specs.declared.stage.Stage.{Stage}

-- a stage: its configuration is sound, and its nodes are nodes
pub record IsStage (stage : Stage) : Type 0 where
  pub config : IsSound stage.config
  pub nodes : All (λ (node : Node MemKeeper). IsNode IsKeptOpen kept_told node) stage.nodes.items

-- the nodes of a stage stand for those of a world, which have an id of their own each
pub record PlaysWorld (stage : Stage) (world : World) : Type 0 where
  pub nodes : AllStand stage.config stage.nodes.items world.nodes
  pub apart : AllPairs AreApart world.nodes

-- what happens goes as in a world, and what it prints is written
pub record HasGone (old new : Stage) (before after : List ℕ) (happening : Happened) : Type 0 where
  pub plays : PlaysWorld new happening.world
  pub writes : after ≡ before ++ text_of_happened old.config happening

-- an event goes as in the world, and what it prints is written
pub record HasPlayed (old new : Stage) (before after : List ℕ) (world : World) (event : WorldEvent)
    : Type 0 where
  pub plays : PlaysWorld new (happened old.config old.noise world event).world
  pub writes : after
      ≡ before ++ text_of_happened old.config (happened old.config old.noise world event)

abbrev pub Plays : Stage → Stage → List ℕ → List ℕ → WorldEvent → Type 0
Plays old new before after event = (world : World) → PlaysWorld old world
    → HasPlayed old new before after world event
