-- Where the node of an id stands.
use Rattle.std.specs.Prelude.{◌≡◌, ◌<◌, ℕ, Bool, List, length, map, None, Some, slice_index_or, slice_set}
use Rattle.std.specs.List.{AllPairs, find}
use Rattle.std.specs.Str.{bytes_eq}
use Rattle.sds_outside.specs.declared.mem_keeper.MemKeeper.{MemKeeper}
use Rattle.sds_types.specs.declared.config.Config.{Config}
use Rattle.sds_history.specs.world.Worlds as world
use Rattle.sds_node.specs.Meaning.{has}
use Rattle.sds_node.specs.declared.node.Node.{Node}
use Rattle.sds_stage.specs.Standing.{AllStand, Stands}

-- a node has this id
abbrev pub is_called : List ℕ → Node MemKeeper → Bool
is_called id node = bytes_eq (has node).me.id id

-- two nodes of a world have two ids
abbrev pub AreApart : world.Node → world.Node → Type 0
AreApart a b = (world.me_of a).id ≡ (world.me_of b).id → ⊥

-- the world's node of the id is the one for which the node at a place stands, and another node there
-- stands for it too, or for another of that id
pub record NodeAt (config : Config) (id : List ℕ) (nodes : List (Node MemKeeper)) (place : ℕ)
    (stoods : List world.Node) : Type 0 where
  pub stood : world.Node
  pub called : (world.me_of stood).id ≡ id
  pub found : find (world.has_id id) stoods ≡ Some stood
  pub stands : (node : Node MemKeeper) → node ≡ slice_index_or nodes place node
      → Stands config node stood
  pub stay : (node : Node MemKeeper) → Stands config node stood
      → AllStand config (slice_set nodes place node) stoods
  pub put : (node : Node MemKeeper) (next : world.Node)
      → (world.me_of next).id ≡ id → Stands config node next
      → AllStand config (slice_set nodes place node) (map (world.one_for next) stoods)

-- whatever nodes these stand for, the one of the id is at this place
pub record IsPlaced (id : List ℕ) (nodes : List (Node MemKeeper)) (place : ℕ) : Type 0 where
  pub within : place < length nodes
  pub at : (config : Config) (stoods : List world.Node) → AllPairs AreApart stoods
      → AllStand config nodes stoods → NodeAt config id nodes place stoods

-- whatever nodes these stand for, none has the id
pub record IsNowhere (id : List ℕ) (nodes : List (Node MemKeeper)) : Type 0 where
  pub absent : (config : Config) (stoods : List world.Node) → AllStand config nodes stoods
      → find (world.has_id id) stoods ≡ None

-- some node there has the id
pub record IsSomewhere (id : List ℕ) (nodes : List (Node MemKeeper)) : Type 0 where
  pub place : ℕ
  pub placed : IsPlaced id nodes place
