-- What a rehearsal of a text is answered and writes, and what its nodes' keepers keep then.
use Rattle.std.specs.Prelude.{◌≡◌, ◌≢◌, ◌≤◌, ◌==◌, ℕ, if◌then◌else◌, List, length, take, Option, None, Some, Result, Ok, Err}
use Rattle.sds_outside.specs.Told.{after_told}
use Rattle.sds_outside.specs.declared.mem_keeper.MemKeeper.{MemKeeper}
use Rattle.sds_types.specs.declared.config.Config.{Config}
use Rattle.sds_types.specs.declared.scenario.ScenarioCause.{ScenarioCause}
use Rattle.sds_types.specs.declared.scenario.ScenarioCause.TheVariants.{BadForm, UnknownName, Twice, Unfinished, TooLong, NotSupported}
use Rattle.sds_types.specs.declared.scenario.WorldRefusal.{WorldRefusal}
use Rattle.sds_types.specs.declared.scenario.WorldRefusal.TheVariants as refusal
use Rattle.sds_history.specs.world.Worlds.{World}
use Rattle.sds_screen.specs.Scenes.{first_scene}
use Rattle.sds_screen.specs.Screen.{BadLine, scenario_refusal, scenario_screen, split_of}
use Rattle.sds_screen.specs.WorldAt.{scene_after}
use Rattle.sds_stage.specs.Keeping.{AllKeep}

-- the cause of a number
abbrev pub cause_by : ℕ → ScenarioCause
cause_by number = if number == 1 then BadForm else (if number == 2 then UnknownName else
    (if number == 3 then Twice else (if number == 4 then Unfinished else
    (if number == 5 then TooLong else NotSupported))))

-- the causes that a rehearsal has
abbrev pub IsCause : ScenarioCause → Type 0
IsCause NotSupported = ⊥
IsCause cause = Unit {0}

-- what a rehearsal is answered that was read and written without a fault
abbrev pub ending : Option BadLine → Result (Unit {0}) WorldRefusal
ending None = Ok tt
ending (Some bad) = Err (refusal.BadLine bad.line (cause_by bad.cause))

-- the world after all lines of a text that may stand
abbrev pub last_world : Config → List ℕ → List ℕ → World
last_world config noise text =
    (scene_after config noise first_scene (split_of text).lines).world

-- what a rehearsal of a text is answered and writes: the whole screen and the ending that the text
-- has, unless a fault came or memory was wanting; and always a prefix of the screen
pub record Shows (config : Config) (noise text : List ℕ) (result : Result (Unit {0}) WorldRefusal)
    (old new : Option (List ℕ)) : Type 0 where
  pub ends : result ≢ Err refusal.ReadFault → result ≢ Err refusal.WriteFault
      → result ≢ Err refusal.NoMemory
      → (result ≡ ending (scenario_refusal config noise text))
      × (new ≡ after_told old (scenario_screen config noise text))
  pub part : (n : ℕ) × ((n ≤ length (scenario_screen config noise text))
      × (new ≡ after_told old (take n (scenario_screen config noise text))))

-- the keepers keep for the nodes of the world after all lines that may stand, one for one, unless
-- the reading failed or memory was wanting
abbrev pub Keeps : Config → List ℕ → List ℕ → Result (Unit {0}) WorldRefusal → List MemKeeper
    → Type 0
Keeps config noise text result keepers = result ≢ Err refusal.ReadFault
    → result ≢ Err refusal.NoMemory
    → AllKeep config keepers (last_world config noise text).nodes
