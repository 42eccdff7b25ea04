-- After each line of a scenario its nodes are in step.
use Rattle.std.proofs.Common.{◌≡◌, ℕ, Bool, true, false, not, ◌||◌, List, [], ◌∷◌, take, Option, None, Some, refl, sym, ap, subst}
use Rattle.std.specs.Prelude.{if◌then◌else◌, is_some, option_map, length, nat_le}
use Rattle.sds_line.specs.declared.line.Line.{Line}
use Rattle.sds_types.specs.declared.config.Config.{Config}
use Rattle.sds_types.specs.declared.scenario.ScenarioCause.{ScenarioCause}
use Rattle.sds_types.specs.declared.scenario.ScenarioCause.TheVariants.{BadForm, UnknownName, Twice}
use Rattle.sds_types.specs.declared.scenario.ScenarioLine.{ScenarioLine}
use Rattle.sds_types.specs.declared.scenario.ScenarioLine.TheVariants as line
use Rattle.sds_types.specs.declared.world_event.WorldEvent.{WorldEvent}
use Rattle.sds_trade.specs.rules.Sound.{IsSound}
use Rattle.sds_history.specs.world.Events.{happened}
use Rattle.sds_history.specs.world.InStep.{InStep}
use Rattle.sds_history.specs.world.Worlds.{World, node_at}
use Rattle.sds_scenario.specs.Lines.{line_of}
use Rattle.sds_screen.specs.Causes.{cause_of, is_in_place, is_node, is_twice, most_nodes, names_stand}
use Rattle.sds_screen.specs.Scenes.{Draft, Scene, event_at, first_scene, write_event}
use Rattle.sds_screen.specs.Screen.{happened_if, scene_by, split_of}
use Rattle.sds_screen.specs.WorldAt.{scene_after, world_at}
use Rattle.sds_worldlaws.specs.Stepping.{IsNew}
use Rattle.sds_worldlaws.proofs.Whole.{worlds_stay_in_step}
use Rattle.sds_world.specs.Always.{ScenariosStayInStep}
use Rattle.sds_world.specs.Playing.{IsReached}

-- AN EVENT MORE
event_reached : (config : Config) (noise : List ℕ) (world : World) (event : WorldEvent) → IsReached config noise world → IsNew world event
    → IsReached config noise (happened config noise world event).world
event_reached config noise world event is new = record {
  events = event ∷ is.events;
  new = (subst (λ (w : World). IsNew w event) is.made new, is.new);
  made = ap (λ (w : World). (happened config noise w event).world) is.made;
}

-- A LINE that may stand makes no node whose id another has
twice_not : (t : Bool) → (if t then Some Twice else None) ≡ None → t ≡ false
twice_not true is = absurd (cc)
twice_not false is = refl

names_not : (t : Bool) (later : Option ScenarioCause) → (if t then Some UnknownName else later) ≡ None → later ≡ None
names_not true later is = absurd (cc)
names_not false later is = is

place_not : (t : Bool) (later : Option ScenarioCause) → (if t then Some BadForm else later) ≡ None → later ≡ None
place_not true later is = absurd (cc)
place_not false later is = is

not_twice : (config : Config) (scene : Scene) (said : ScenarioLine) → cause_of config scene (Some said) ≡ None → is_twice scene.world said ≡ false
not_twice config scene said is =
    twice_not (is_twice scene.world said) (names_not (not (names_stand config scene.world said)) _ (place_not (not (is_in_place scene.draft said)) _ is))

left_false : (a b : Bool) → (a || b) ≡ false → a ≡ false
left_false true b is = absurd (cc)
left_false false b is = refl

none_by : {A : Type 0} (o : Option A) → is_some o ≡ false → o ≡ None
none_by None is = refl
none_by (Some x) is = absurd (cc)

-- what a line makes happen is new
abbrev IsNewIf : World → Option WorldEvent → Type 0
IsNewIf world None = Unit {0}
IsNewIf world (Some event) = IsNew world event

end_new : (world : World) (draft : Option Draft) → IsNewIf world (option_map write_event draft)
end_new world None = tt
end_new world (Some draft) = tt

line_new : (config : Config) (draft : Option Draft) (world : World) (said : ScenarioLine) → is_twice world said ≡ false → IsNewIf world (event_at config draft said)
line_new config draft world (line.Node me) is =
    none_by (node_at world me.id) (left_false (is_node world me.id) (nat_le most_nodes (length world.nodes)) is)
line_new config draft world (line.Open at group external) is = tt
line_new config draft world (line.Register asks at) is = tt
line_new config draft world (line.Write node writer number) is = tt
line_new config draft world (line.Row row) is = tt
line_new config draft world line.End is = end_new world draft
line_new config draft world (line.Route node) is = tt
line_new config draft world (line.Send from to channels) is = tt
line_new config draft world (line.Deliver message channels) is = tt
line_new config draft world (line.Answer reply) is = tt
line_new config draft world (line.Push from to) is = tt
line_new config draft world (line.Pull to from) is = tt
line_new config draft world (line.Wire message) is = tt
line_new config draft world (line.Show node) is = tt
line_new config draft world (line.Batches node) is = tt
line_new config draft world (line.Crash node) is = tt
line_new config draft world (line.Fault node stands) is = tt

happened_reached : (config : Config) (noise : List ℕ) (world : World) (event : Option WorldEvent) → IsReached config noise world → IsNewIf world event
    → IsReached config noise (happened_if config noise world event).world
happened_reached config noise world None is new = is
happened_reached config noise world (Some event) is new = event_reached config noise world event is new

line_reached : (config : Config) (noise : List ℕ) (scene : Scene) (said : Option ScenarioLine) → IsReached config noise scene.world → cause_of config scene said ≡ None
    → IsReached config noise (scene_by config noise scene said).world
line_reached config noise scene None is may = absurd (cc)
line_reached config noise scene (Some said) is may =
    happened_reached config noise scene.world (event_at config scene.draft said) is
    (line_new config scene.draft scene.world said (not_twice config scene said may))

-- LINES, one after another
by_cause : (config : Config) (noise : List ℕ) (scene : Scene) (line : Line) (lines : List Line) (cause : Option ScenarioCause) → cause_of config scene (line_of line.fields) ≡ cause
    → IsReached config noise scene.world
    → (cause_of config scene (line_of line.fields) ≡ None
    → IsReached config noise (scene_after config noise (scene_by config noise scene (line_of line.fields)) lines).world)
    → IsReached config noise (scene_after config noise scene (line ∷ lines)).world
by_cause config noise scene line lines None is here on =
    subst (λ (s : Scene). IsReached config noise s.world) (sym (stood is)) (on is)
  where
    stood : cause_of config scene (line_of line.fields) ≡ None
        → scene_after config noise scene (line ∷ lines) ≡ scene_after config noise (scene_by config noise scene (line_of line.fields)) lines
    stood is = rw is refl
by_cause config noise scene line lines (Some cause) is here on =
    subst (λ (s : Scene). IsReached config noise s.world) (sym (stopped is)) here
  where
    stopped : cause_of config scene (line_of line.fields) ≡ Some cause → scene_after config noise scene (line ∷ lines) ≡ scene
    stopped is = rw is refl

lines_reached : (config : Config) (noise : List ℕ) (scene : Scene) (lines : List Line) → IsReached config noise scene.world
    → IsReached config noise (scene_after config noise scene lines).world
lines_reached config noise scene [] is = is
lines_reached config noise scene (line ∷ lines) is =
    by_cause config noise scene line lines (cause_of config scene (line_of line.fields)) refl is
    (λ may. lines_reached config noise (scene_by config noise scene (line_of line.fields)) lines (line_reached config noise scene (line_of line.fields) is may))

first_reached : (config : Config) (noise : List ℕ) → IsReached config noise first_scene.world
first_reached config noise = record { events = []; new = tt; made = refl }

reached_in_step : (config : Config) (noise : List ℕ) (world : World) → IsSound config → IsReached config noise world → InStep config world
reached_in_step config noise world sound is = subst (λ (w : World). InStep config w) (sym is.made) (worlds_stay_in_step config sound noise is.events is.new)

pub scenarios_stay_in_step : ScenariosStayInStep
scenarios_stay_in_step config sound noise text count =
    reached_in_step config noise (world_at config noise text count) sound
    (lines_reached config noise first_scene (take count (split_of text).lines) (first_reached config noise))
