-- What holds of the place and the world behind lines that may stand, and of the stage that has played them.
use Rattle.std.specs.Prelude.{◌≡◌, ℕ, ◌≤◌, ◌<◌, true, List, [], ◌∷◌, length, All, IfSome}
use Rattle.std.specs.Option.{option_map_or}
use Rattle.sds_types.specs.declared.tx_row.TxRow.{TxRow}
use Rattle.sds_first_spec.specs.One.{one}
use Rattle.sds_first_spec.specs.Screen.{printed_by}
use Rattle.sds_first_spec.specs.World.{World, empty_world}
use Rattle.sds_first_laws.specs.Pairs.{IsPairWorld, is_written_row}
use Rattle.sds_first_world.specs.declared.line.Line.{Line}
use Rattle.sds_first_world.specs.declared.place.Draft.{Draft}
use Rattle.sds_first_world.specs.declared.place.Place.{Place}
use Rattle.sds_first_world.specs.declared.stage.Stage.{Stage}
use Rattle.sds_first_world.specs.Looking.{corp, s1, completed, place_of}
use Rattle.sds_first_world.specs.Played.{world_of}
use Rattle.sds_first_world.specs.Playing.{Waits, Stands, beginning}

-- the world of one node, and of two that haven't met
abbrev pub one_node : World
one_node = record { nodes = beginning corp ∷ []; messages = []; replies = [] }

abbrev pub two_nodes : World
two_nodes = record { nodes = beginning corp ∷ (beginning s1 ∷ []); messages = []; replies = [] }

-- the world at this place, behind so many lines
pub record Shaped (place : Place) (w : World) (count : ℕ) : Type 0 where
  pub most : place.openings ≤ 4
  pub at_first : place.openings ≡ 0 → w ≡ empty_world
  pub at_second : place.openings ≡ 1 → w ≡ one_node
  pub at_third : place.openings ≡ 2 → w ≡ two_nodes
  pub at_fourth : place.openings ≡ 3 → w ≡ two_nodes
  pub met : place.openings ≡ 4 → IsPairWorld corp s1 w
  pub open_write : IfSome place.draft (λ (draft : Draft). (place.openings ≡ 4) × All (λ (row : TxRow). is_written_row row ≡ true) draft.rows)
  pub few_messages : length w.messages ≤ count
  pub few_replies : length w.replies ≤ count

-- the stage stands for the world at this place
pub record PlaysAt (place : Place) (stage : Stage) (w : World) : Type 0 where
  pub waits : place.openings < 4 → Waits stage w
  pub stands : place.openings ≡ 4 → Stands stage w

-- what holds behind these lines
pub record Behind (older : List Line) (place : Place) (stage : Stage) : Type 0 where
  pub is : place ≡ place_of older
  pub shaped : Shaped place (world_of older) (length older)
  pub plays : PlaysAt place stage (world_of older)

-- what a line prints behind others
abbrev pub printed_line : List Line → Line → List ℕ
printed_line older line = option_map_or (printed_by one (world_of older)) (completed (place_of older) line) []
