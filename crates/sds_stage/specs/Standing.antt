-- The nodes of a rehearsal, over keepers in memory, and the nodes of a world that they stand for.
use Rattle.std.specs.Prelude.{◌≡◌, ℕ, List, [], ◌∷◌, Option, None, Some, Result}
use Rattle.sds_outside.specs.MemKeeping.{IsKeptOpen, kept_told}
use Rattle.sds_outside.specs.declared.mem_keeper.MemKeeper.{MemKeeper}
use Rattle.sds_types.specs.declared.config.Config.{Config}
use Rattle.sds_history.specs.world.Calling.{Called}
use Rattle.sds_history.specs.world.Worlds as world
use Rattle.sds_node.specs.declared.node.Node.{Node}
use Rattle.sds_standing.specs.Standing.{GoesAs, StandsFor}

-- a keeper in memory is never damaged
abbrev pub undamaged : MemKeeper → Option (Option ℕ)
undamaged keeper = Some None

abbrev pub Stands : Config → Node MemKeeper → world.Node → Type 0
Stands config node stood = StandsFor IsKeptOpen kept_told undamaged config node stood

-- a call of a node goes as that of the node that it stands for
abbrev pub Goes : {A E : Type 0} → Node MemKeeper → Node MemKeeper → Result A E
    → (Config → world.Node → Called A E) → Type 0
Goes before after answer called = (config : Config) (stood : world.Node)
    → Stands config before stood
    → GoesAs IsKeptOpen kept_told undamaged config after answer (called config stood)

-- nodes stand for the nodes of a world, one for one
abbrev pub AllStand : Config → List (Node MemKeeper) → List world.Node → Type 0
AllStand config [] [] = Unit {0}
AllStand config [] (stood ∷ others) = ⊥
AllStand config (node ∷ nodes) [] = ⊥
AllStand config (node ∷ nodes) (stood ∷ others) =
    Stands config node stood × AllStand config nodes others
