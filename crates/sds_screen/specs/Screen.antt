-- From a configuration, the noise and a scenario to its screen and its first bad line.
use Rattle.std.specs.Prelude.{ℕ, ◌-◌, Bool, not, ◌==◌, nat_lt, is_some, if◌then◌else◌, List, [], ◌∷◌, ◌++◌, length, take, Option, None, Some}
use Rattle.std.specs.List.{flat_map, suffix_len}
use Rattle.sds_line.specs.declared.line.Line.{Line}
use Rattle.sds_line.specs.Splitting.{Split, lines_in}
use Rattle.sds_types.specs.Limits.{most_input_bytes}
use Rattle.sds_types.specs.ScenarioCauses.{number_of}
use Rattle.sds_types.specs.declared.config.Config.{Config}
use Rattle.sds_types.specs.declared.scenario.ScenarioCause.{ScenarioCause}
use Rattle.sds_types.specs.declared.scenario.ScenarioCause.TheVariants.{BadForm, Unfinished, TooLong}
use Rattle.sds_types.specs.declared.scenario.ScenarioLine.{ScenarioLine}
use Rattle.sds_types.specs.declared.world_event.WorldEvent.{WorldEvent}
use Rattle.sds_scenario.specs.Lines.{line_of}
use Rattle.sds_screen.specs.Causes.{cause_of}
use Rattle.sds_history.specs.world.Events.{happened}
use Rattle.sds_history.specs.world.Happened.{Happened, quiet}
use Rattle.sds_screen.specs.Lines.{told_text}
use Rattle.sds_screen.specs.Scenes.{Draft, Scene, first_scene, event_at, draft_after}
use Rattle.sds_history.specs.world.Worlds.{World}

-- TEXT. What is looked at: all of it, or, of one that is too long, what stands before the line that
-- holds the first byte too many
abbrev pub is_past_most : List ℕ → Bool
is_past_most text = nat_lt most_input_bytes (length text)

abbrev pub through_last_feed : List ℕ → List ℕ
through_last_feed text = take (length text - suffix_len (λ (b : ℕ). not (b == 10)) text) text

abbrev pub looked_at : List ℕ → List ℕ
looked_at text =
    if is_past_most text then through_last_feed (take most_input_bytes text) else text

abbrev pub split_of : List ℕ → Split
split_of text = lines_in (not (is_past_most text)) (looked_at text)

-- LINES. What happens at a line, and the scene after it
abbrev pub happened_if : Config → List ℕ → World → Option WorldEvent → Happened
happened_if config noise world None = quiet world
happened_if config noise world (Some event) = happened config noise world event

abbrev pub happened_at : Config → List ℕ → Scene → ScenarioLine → Happened
happened_at config noise scene said =
    happened_if config noise scene.world (event_at config scene.draft said)

-- a line that may stand, or the cause for which it may not
abbrev pub scene_by : Config → List ℕ → Scene → Option ScenarioLine → Scene
scene_by config noise scene None = scene
scene_by config noise scene (Some said) = record {
  world = (happened_at config noise scene said).world;
  draft = draft_after scene.draft said;
}

abbrev pub text_of_happened : Config → Happened → List ℕ
text_of_happened config happening =
    flat_map (told_text config happening.world) happening.told

abbrev pub text_by : Config → List ℕ → Scene → Option ScenarioLine → List ℕ
text_by config noise scene None = []
text_by config noise scene (Some said) =
    text_of_happened config (happened_at config noise scene said)

-- SCREEN. What the lines print up to the first that may not stand
abbrev pub screen_from : Config → List ℕ → Scene → List Line → List ℕ
screen_from config noise scene [] = []
screen_from config noise scene (line ∷ lines) = let said = line_of line.fields in
    if is_some (cause_of config scene said) then []
    else text_by config noise scene said
    ++ screen_from config noise (scene_by config noise scene said) lines

abbrev pub scenario_screen : Config → List ℕ → List ℕ → List ℕ
scenario_screen config noise text = screen_from config noise first_scene (split_of text).lines

-- REFUSAL. The first line that may not stand, with the number of its cause
pub record BadLine : Type 0 where
  pub line : ℕ
  pub cause : ℕ

abbrev pub refused_line : ℕ → ScenarioCause → BadLine
refused_line line cause = record { line = line; cause = number_of cause }

-- after the last line: no further line reads, or the text is too long, or a write hasn't ended
abbrev pub end_refusal : Bool → Split → Option Draft → Option BadLine
end_refusal is_over split draft =
    if is_some split.stop then Some (refused_line split.last.number BadForm)
    else (if is_over then Some (refused_line split.last.number TooLong)
    else (if is_some draft then Some (refused_line split.last.number Unfinished) else None))

abbrev pub refusal_from : Config → List ℕ → Bool → Split → Scene → List Line → Option BadLine
refusal_from config noise is_over split scene [] = end_refusal is_over split scene.draft
refusal_from config noise is_over split scene (line ∷ lines) = let said = line_of line.fields in
    elim (cause_of config scene said) [
      | Some cause ↦ Some (refused_line line.number cause)
      | None ↦ refusal_from config noise is_over split (scene_by config noise scene said) lines
    ]

abbrev pub scenario_refusal : Config → List ℕ → List ℕ → Option BadLine
scenario_refusal config noise text = refusal_from config noise (is_past_most text) (split_of text)
    first_scene (split_of text).lines
