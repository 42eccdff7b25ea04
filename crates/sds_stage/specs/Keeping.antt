-- What the keepers of a stage's nodes keep when they are closed.
use Rattle.std.specs.Prelude.{List, [], ◌∷◌}
use Rattle.sds_outside.specs.MemKeeping.{kept_told}
use Rattle.sds_outside.specs.declared.mem_keeper.MemKeeper.{MemKeeper}
use Rattle.sds_types.specs.declared.config.Config.{Config}
use Rattle.sds_history.specs.world.Worlds as world
use Rattle.sds_node.specs.declared.node.Node.{Node}
use Rattle.sds_standing.specs.Standing.{KeepsFor}
use Rattle.sds_stage.specs.Standing.{undamaged}

abbrev pub keeper_of : Node MemKeeper → MemKeeper
keeper_of node = node.keeper

-- a keeper in memory keeps what a node of a world has
abbrev pub Keeps : Config → MemKeeper → world.Node → Type 0
Keeps config keeper stood = KeepsFor kept_told undamaged config keeper stood

-- keepers keep for the nodes of a world, one for one
abbrev pub AllKeep : Config → List MemKeeper → List world.Node → Type 0
AllKeep config [] [] = Unit {0}
AllKeep config [] (stood ∷ others) = ⊥
AllKeep config (keeper ∷ keepers) [] = ⊥
AllKeep config (keeper ∷ keepers) (stood ∷ others) =
    Keeps config keeper stood × AllKeep config keepers others
