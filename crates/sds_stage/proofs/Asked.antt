-- What a stage is asked: whether a node has an id, and how many there are.
use Rattle.std.proofs.Common.{◌≡◌, ℕ, suc, List, [], ◌∷◌, length, Option, None, Some, refl, sym, ap, subst}
use Rattle.std.specs.Prelude.{MatchOption, is_some}
use Rattle.sds_outside.specs.declared.mem_keeper.MemKeeper.{MemKeeper}
use Rattle.sds_types.specs.declared.config.Config.{Config}
use Rattle.sds_history.specs.world.Worlds as world
use Rattle.sds_node.specs.declared.node.Node.{Node}
use Rattle.sds_screen.specs.Causes.{is_node}
use Rattle.sds_stage.specs.Placed.{IsNowhere, IsPlaced}
use Rattle.sds_stage.specs.Playing.{PlaysWorld}
use Rattle.sds_stage.specs.Standing.{AllStand}
use Rattle.sds_stage.specs.declared.stage.Stage.{Stage}

-- a node of the stage has an id where one of the world has it
node_in : (stage : Stage) (id : List ℕ) (place : Option ℕ) → MatchOption place (IsNowhere id stage.nodes.items) (IsPlaced id stage.nodes.items)
    → (played : world.World) → PlaysWorld stage played → is_some place ≡ is_node played id
node_in stage id (Some place) placed played plays = sym (ap is_some (placed.at stage.config played.nodes plays.apart plays.nodes).found)
node_in stage id None nowhere played plays = sym (ap is_some (nowhere.absent stage.config played.nodes plays.nodes))

pub node_is : (stage : Stage) (id : List ℕ) (seen : List (Node MemKeeper)) (place : Option ℕ) → seen ≡ stage.nodes.items
    → MatchOption place (IsNowhere id seen) (IsPlaced id seen) → (played : world.World) → PlaysWorld stage played → is_some place ≡ is_node played id
node_is stage id seen place same found =
    node_in stage id place (subst (λ (nodes : List (Node MemKeeper)). MatchOption place (IsNowhere id nodes) (IsPlaced id nodes)) same found)

-- nodes that stand for others are as many
pub as_many : (config : Config) (nodes : List (Node MemKeeper)) (stoods : List world.Node) → AllStand config nodes stoods → length nodes ≡ length stoods
as_many config [] [] stand = refl
as_many config [] (stood ∷ others) stand = absurd stand
as_many config (node ∷ nodes) [] stand = absurd stand
as_many config (node ∷ nodes) (stood ∷ others) stand = ap suc (as_many config nodes others stand.1)
