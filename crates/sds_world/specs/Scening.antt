-- A scenario that is played stands where its lines have led.
use Rattle.std.specs.Prelude.{◌≡◌, ◌&&◌, IfSome, IsTrue, None, Some, option_map}
use Rattle.sds_line.specs.Written.{are_fields}
use Rattle.sds_value.specs.Names.{is_name_text}
use Rattle.sds_types.specs.declared.scenario.ScenarioLine.{ScenarioLine}
use Rattle.sds_types.specs.declared.scenario.ScenarioLine.TheVariants as line
use Rattle.sds_nodelaws.specs.Asked.{are_spelt, is_named_peer}
use Rattle.sds_screen.specs.Causes.{cause_of}
use Rattle.sds_screen.specs.Scenes as scenes
use Rattle.sds_world.specs.Playing.{IsRehearsal, PlaysWorld}
use Rattle.sds_world.specs.declared.play.Draft as drafts
use Rattle.sds_world.specs.declared.play.Play.{Play}

-- what a line gives to a call of a node, as every line that was read does: names, and the fields of
-- a row as texts of characters
abbrev pub IsSaidLine : ScenarioLine → Type 0
IsSaidLine (line.Node me) = IsTrue (is_named_peer me)
IsSaidLine (line.Open at group external) =
    IsTrue (is_name_text group && is_name_text external)
IsSaidLine (line.Write node writer number) = IsTrue (is_name_text writer)
IsSaidLine (line.Row row) = IsTrue (are_fields row.fields)
IsSaidLine other = Unit {0}

-- a write that is being read: its writer is a name, and its rows are of characters
abbrev pub IsSoundDraft : drafts.Draft → Type 0
IsSoundDraft draft = IsTrue (is_name_text draft.writer && are_spelt draft.rows)

-- a write that is being read, as the definitions of scenarios have it
abbrev pub draft_of : drafts.Draft → scenes.Draft
draft_of draft = record {
  node = draft.node;
  writer = draft.writer;
  number = draft.number;
  rows = draft.rows;
}

pub record PlaysScene (play : Play) (scene : scenes.Scene) : Type 0 where
  pub world : PlaysWorld play.rehearsal scene.world
  pub draft : option_map draft_of play.draft ≡ scene.draft

-- what holds of a scenario that is played
pub record IsPlay (play : Play) : Type 0 where
  pub rehearsal : IsRehearsal play.rehearsal
  pub draft : IfSome play.draft IsSoundDraft

-- the configuration and the noise stay
pub record StaysPlay (old new : Play) : Type 0 where
  pub config : new.rehearsal.stage.config ≡ old.rehearsal.stage.config
  pub noise : new.rehearsal.stage.noise ≡ old.rehearsal.stage.noise

-- a line may stand where the lines before it have led
abbrev pub MayStand : Play → ScenarioLine → Type 0
MayStand play said = (scene : scenes.Scene) → PlaysScene play scene
    → cause_of play.rehearsal.stage.config scene (Some said) ≡ None
