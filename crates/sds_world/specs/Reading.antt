-- What holds of a scenario that is played while its text comes.
use Rattle.std.specs.Prelude.{◌≡◌, ℕ, Bool, true, is_some, List, ◌++◌, Option, None, Some, option_map, Result, Ok, Err}
use Rattle.sds_base.specs.declared.memory.NoMemory.{NoMemory}
use Rattle.sds_line.specs.declared.line.Line.{Line}
use Rattle.sds_line.specs.Splitting.{Split, Fed, Follows, IsEnd}
use Rattle.sds_types.specs.declared.config.Config.{Config}
use Rattle.sds_types.specs.declared.scenario.ScenarioCause.{ScenarioCause}
use Rattle.sds_types.specs.declared.scenario.WorldRefusal.{WorldRefusal}
use Rattle.sds_types.specs.declared.scenario.WorldRefusal.TheVariants as refusal
use Rattle.sds_scenario.specs.Lines.{line_of}
use Rattle.sds_screen.specs.Causes.{cause_of}
use Rattle.sds_screen.specs.Scenes.{Scene, first_scene}
use Rattle.sds_screen.specs.Screen.{BadLine, refused_line, refusal_from, scene_by, screen_from, text_by}
use Rattle.sds_screen.specs.WorldAt.{scene_after}
use Rattle.sds_stage.specs.Keeping.{AllKeep}
use Rattle.sds_world.specs.Scening.{PlaysScene}
use Rattle.sds_world.specs.declared.play.Play.{Play}
use Rattle.sds_world.specs.declared.rehearsing.Rehearsed.{Rehearsed}
use Rattle.sds_world.specs.declared.text.Stop.{Stop}

-- a text stops at the line of this number
abbrev pub stop_of : ℕ → ScenarioCause → Stop
stop_of line cause = record { line = line; cause = cause }

-- the line at which a text stops, as the definitions of scenarios have it
abbrev pub bad_line : Stop → BadLine
bad_line stop = refused_line stop.line stop.cause

-- a reader that was fed some text, some lines of which were taken
pub record Reads (reader : Fed) : Type 0 where
  pub text : List ℕ
  pub taken : List Line
  pub finished : Bool
  pub follows : Follows text taken finished reader

-- what is split of a front of a text is a front of what is split of the whole, which is all of it
-- where it is refused
pub record IsFront (front whole : Split) : Type 0 where
  pub rest : List Line
  pub lines : whole.lines ≡ front.lines ++ rest
  pub refused : is_some front.stop ≡ true → whole ≡ front

-- a line was played, or may not stand: then nothing changed
pub record Turns (old new : Play) (line : Line) (bad : Option Stop) : Type 0 where
  pub is_bad : (scene : Scene) → PlaysScene old scene → bad ≡ option_map (stop_of line.number)
      (cause_of old.rehearsal.stage.config scene (line_of line.fields))
  pub plays : bad ≡ None → (scene : Scene) → PlaysScene old scene
      → PlaysScene new (scene_by old.rehearsal.stage.config old.rehearsal.stage.noise scene
      (line_of line.fields))
  pub prints : bad ≡ None → (scene : Scene) → PlaysScene old scene
      → new.screen.items ≡ old.screen.items
      ++ text_by old.rehearsal.stage.config old.rehearsal.stage.noise scene (line_of line.fields)
  pub stays : is_some bad ≡ true → new ≡ old
  pub config : new.rehearsal.stage.config ≡ old.rehearsal.stage.config
  pub noise : new.rehearsal.stage.noise ≡ old.rehearsal.stage.noise

-- these lines of a text are played, and it goes on
pub record Goes (config : Config) (noise : List ℕ) (is_over : Bool) (whole : Split)
    (taken : List Line) (play : Play) : Type 0 where
  pub config_is : play.rehearsal.stage.config ≡ config
  pub noise_is : play.rehearsal.stage.noise ≡ noise
  pub rest : List Line
  pub lines : whole.lines ≡ taken ++ rest
  pub scene : Scene
  pub plays : PlaysScene play scene
  pub shown : play.screen.items ++ screen_from config noise scene rest
      ≡ screen_from config noise first_scene whole.lines
  pub refused : refusal_from config noise is_over whole scene rest
      ≡ refusal_from config noise is_over whole first_scene whole.lines
  pub after : scene_after config noise scene rest
      ≡ scene_after config noise first_scene whole.lines

-- all that may stand of a text is played, and this is the first line that may not
pub record Ends (config : Config) (noise : List ℕ) (is_over : Bool) (whole : Split) (play : Play)
    (bad : Option Stop) : Type 0 where
  pub config_is : play.rehearsal.stage.config ≡ config
  pub plays : PlaysScene play (scene_after config noise first_scene whole.lines)
  pub shown : play.screen.items ≡ screen_from config noise first_scene whole.lines
  pub refused : option_map bad_line bad
      ≡ refusal_from config noise is_over whole first_scene whole.lines

-- all lines of a text so far are played, and it goes on
pub record GoesOn (config : Config) (noise : List ℕ) (is_over : Bool) (whole : Split)
    (text : List ℕ) (finished : Bool) (play : Play) (reader : Fed) : Type 0 where
  pub taken : List Line
  pub follows : Follows text taken finished reader
  pub all : IsEnd text taken finished None
  pub goes : Goes config noise is_over whole taken play

-- a text that was played: what it printed, the first line that it may not have, and the keepers of
-- its nodes
pub record IsRehearsed (config : Config) (noise : List ℕ) (is_over : Bool) (whole : Split)
    (rehearsed : Rehearsed) : Type 0 where
  pub shown : rehearsed.screen.items ≡ screen_from config noise first_scene whole.lines
  pub refused : option_map bad_line rehearsed.bad
      ≡ refusal_from config noise is_over whole first_scene whole.lines
  pub kept : AllKeep config rehearsed.keepers.items
      (scene_after config noise first_scene whole.lines).world.nodes

-- what is answered of a text that was read, played and written
abbrev pub ended : Option Stop → Result (Unit {0}) WorldRefusal
ended None = Ok tt
ended (Some stop) = Err (refusal.BadLine stop.line stop.cause)

-- what is answered where the lines of a text are played
abbrev pub Plays : Config → List ℕ → Bool → Split → List ℕ → Bool
    → Result (Option Stop) NoMemory → Play → Fed → Type 0
Plays config noise is_over whole text finished (Ok None) play reader =
    GoesOn config noise is_over whole text finished play reader
Plays config noise is_over whole text finished (Ok (Some bad)) play reader =
    Ends config noise is_over whole play (Some bad)
Plays config noise is_over whole text finished (Err memory) play reader = Unit {0}
