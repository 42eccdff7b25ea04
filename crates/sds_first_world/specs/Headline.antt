-- What holds of every scenario, in the trade's words: each routed change stands in exactly the batches that its routers named, and every node's tables are
-- what its accepted writes and a front of each sender's batches leave, each once, in the order of the node's commits.
use Rattle.std.specs.Prelude.{◌≡◌, ℕ, true, ◌&&◌, ◌==◌, if◌then◌else◌, List, [], ◌∷◌, ◌++◌, map, take, All}
use Rattle.std.specs.Str.{bytes_eq}
use Rattle.sds_first_spec.specs.declared.row.LoadRow.{LoadRow}
use Rattle.sds_types.specs.declared.row.TableRow.{TableRow}
use Rattle.sds_types.specs.declared.tx_row.TxRow.{TxRow}
use Rattle.sds_first_spec.specs.Acts.{Act, History}
use Rattle.sds_first_spec.specs.Acts.Act.{Wrote, Routed, Loaded, Acked}
use Rattle.sds_first_spec.specs.Capture.{steps_of, after_all}
use Rattle.sds_first_spec.specs.Happens.{world_after}
use Rattle.sds_first_spec.specs.History.{state_of, batches_of}
use Rattle.sds_first_spec.specs.InStep.{Taken, taken_as, EachFromNode, EachToPeer, RoutedOnce}
use Rattle.sds_first_spec.specs.Lanes.{made, loaded}
use Rattle.sds_first_spec.specs.One.{one}
use Rattle.sds_first_spec.specs.Outcome.{load_steps}
use Rattle.sds_first_spec.specs.World.{World, empty_world}
use Rattle.sds_first_world.specs.Played.{events_of}

-- the world after the first so many events of a scenario
abbrev pub world_at : List ℕ → ℕ → World
world_at text n = world_after one empty_world (take n (events_of true text))

-- what changes a node's tables: a write that was accepted, or a batch of a lane that was loaded
pub data Change : Type 0 where
  Accepted : (rows : List TxRow) → Change
  Brought : (from : List ℕ) → (channel : ℕ) → (batch : ℕ) → (rows : List LoadRow) → Change

-- in the order of the node's commits, the first first
abbrev pub changes_in : List Act → List Change
changes_in [] = []
changes_in (Wrote writer number rows ∷ acts) = changes_in acts ++ Accepted rows ∷ []
changes_in (Routed ∷ acts) = changes_in acts
changes_in (Loaded from channel batch rows ∷ acts) = changes_in acts ++ Brought from channel batch rows ∷ []
changes_in (Acked from acks ∷ acts) = changes_in acts

-- the tables that one of them leaves, and that all of them leave, one after another
abbrev pub with_change : List TableRow → Change → List TableRow
with_change tables (Accepted rows) = after_all one tables (steps_of one rows)
with_change tables (Brought from channel batch rows) = after_all one tables (load_steps one tables rows)

abbrev pub folded : List TableRow → List Change → List TableRow
folded tables [] = tables
folded tables (change ∷ changes) = folded (with_change tables change) changes

-- the batches of a lane among them
abbrev pub brought_in : List ℕ → ℕ → List Change → List Taken
brought_in sender channel [] = []
brought_in sender channel (Accepted rows ∷ changes) = brought_in sender channel changes
brought_in sender channel (Brought from place batch rows ∷ changes) =
    if bytes_eq from sender && place == channel then (batch, rows) ∷ brought_in sender channel changes else brought_in sender channel changes

-- each change that a routing run took stands once in the batches to each peer that its routers named at that run, and in no other batch
pub record GoesOnce (w : World) : Type 0 where
  pub once : All (RoutedOnce one) w.nodes
  pub to_peers : All (λ (h : History). EachToPeer h.opening.peers (batches_of one h.opening h.acts)) w.nodes

-- a node's tables are those that its accepted writes and its batches leave, from nothing
abbrev pub AreFolded : History → Type 0
AreFolded h = (state_of one h).tables ≡ folded [] (changes_in h.acts)

-- its batches of a lane are a front of what the sender made, each once and in order
abbrev pub AreFront : History → History → Type 0
AreFront sender h = (channel : ℕ) → brought_in sender.opening.me.id channel (changes_in h.acts)
    ≡ take (loaded sender.opening.me.id channel h.acts) (map (taken_as one (state_of one sender)) (made (state_of one sender) h.opening.me.id channel))

-- and each comes from a node of the world
pub record TablesAreFolds (w : World) : Type 0 where
  pub folds : All AreFolded w.nodes
  pub fronts : All (λ (sender : History). All (AreFront sender) w.nodes) w.nodes
  pub from_nodes : All (λ (h : History). EachFromNode one w.nodes h.acts) w.nodes
