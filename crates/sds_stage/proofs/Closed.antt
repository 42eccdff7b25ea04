-- The keepers of nodes that stand for those of a world keep for these.
use Rattle.std.proofs.Common.{◌≡◌, List, [], ◌∷◌, map, sym, subst}
use Rattle.sds_outside.specs.declared.mem_keeper.MemKeeper.{MemKeeper}
use Rattle.sds_types.specs.declared.config.Config.{Config}
use Rattle.sds_history.specs.world.Worlds as world
use Rattle.sds_node.specs.declared.node.Node.{Node}
use Rattle.sds_stage.specs.Keeping.{AllKeep, keeper_of}
use Rattle.sds_stage.specs.Standing.{AllStand}

all_keep : (config : Config) (nodes : List (Node MemKeeper)) (stoods : List world.Node) → AllStand config nodes stoods → AllKeep config (map keeper_of nodes) stoods
all_keep config [] [] stand = tt
all_keep config [] (stood ∷ others) stand = absurd stand
all_keep config (node ∷ nodes) [] stand = absurd stand
all_keep config (node ∷ nodes) (stood ∷ others) stand = (stand.0.keeps, all_keep config nodes others stand.1)

pub closed_keep : (config : Config) (nodes : List (Node MemKeeper)) (keepers : List MemKeeper) (stoods : List world.Node) → keepers ≡ map keeper_of nodes
    → AllStand config nodes stoods → AllKeep config keepers stoods
closed_keep config nodes keepers stoods is stand =
    subst (λ (l : List MemKeeper). AllKeep config l stoods) (sym is) (all_keep config nodes stoods stand)
