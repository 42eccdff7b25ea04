-- The world that the first lines of a scenario make.
use Rattle.std.specs.Prelude.{ℕ, if◌then◌else◌, is_some, List, [], ◌∷◌, take}
use Rattle.sds_line.specs.declared.line.Line.{Line}
use Rattle.sds_types.specs.declared.config.Config.{Config}
use Rattle.sds_scenario.specs.Lines.{line_of}
use Rattle.sds_screen.specs.Causes.{cause_of}
use Rattle.sds_screen.specs.Scenes.{Scene, first_scene}
use Rattle.sds_screen.specs.Screen.{scene_by, split_of}
use Rattle.sds_history.specs.world.Worlds.{World}

-- the scene after lines, up to the first that may not stand
abbrev pub scene_after : Config → List ℕ → Scene → List Line → Scene
scene_after config noise scene [] = scene
scene_after config noise scene (line ∷ lines) = let said = line_of line.fields in
    if is_some (cause_of config scene said) then scene
    else scene_after config noise (scene_by config noise scene said) lines

-- the world after the first lines of a text, so many of them
abbrev pub world_at : Config → List ℕ → List ℕ → ℕ → World
world_at config noise text count =
    (scene_after config noise first_scene (take count (split_of text).lines)).world
