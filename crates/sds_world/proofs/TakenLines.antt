-- A line that may stand leaves what is read of a write sound, and makes happen what may be asked.
use Rattle.std.proofs.Common.{◌≡◌, ℕ, Bool, true, false, List, [], ◌∷◌, ◌++◌, Option, None, Some, refl, sym, ap, subst, ◌∙◌, true≢false}
use Rattle.std.specs.Prelude.{◌&&◌, ◌||◌, IfSome, IsTrue, OnOk, Result, Ok, Err, if◌then◌else◌, is_some, length, nat_le, not}
use Rattle.std.specs.Option.{option_map}
use Rattle.sds_line.specs.Written.{are_fields}
use Rattle.sds_value.specs.Names.{is_name_text}
use Rattle.sds_types.specs.declared.config.Config.{Config}
use Rattle.sds_types.specs.declared.scenario.ScenarioCause.{ScenarioCause}
use Rattle.sds_types.specs.declared.scenario.ScenarioCause.TheVariants.{BadForm, UnknownName, Twice}
use Rattle.sds_types.specs.declared.scenario.ScenarioLine.{ScenarioLine}
use Rattle.sds_types.specs.declared.scenario.ScenarioLine.TheVariants.{Node, Open, Register, Write, Row, End, Route, Send, Deliver, Answer, Push, Pull, Wire, Show, Batches, Crash, Fault}
use Rattle.sds_types.specs.declared.tx_row.TxRow.{TxRow}
use Rattle.sds_types.specs.declared.world_event.WorldEvent.{WorldEvent}
use Rattle.sds_history.specs.world.Worlds.{Node as Stood, World, node_at}
use Rattle.sds_nodelaws.specs.Asked.{are_spelt}
use Rattle.sds_nodelaws.proofs.Lists.{and_both, and_left, and_right}
use Rattle.sds_worldlaws.specs.Stepping.{IsNew}
use Rattle.sds_screen.specs.Causes.{is_in_place, is_node, is_twice, most_nodes, names_stand}
use Rattle.sds_screen.specs.Scenes as scenes
use Rattle.sds_screen.specs.Scenes.{Scene, draft_after, event_at, with_draft_row, write_event}
use Rattle.sds_screen.specs.Screen.{happened_if, scene_by, text_by, text_of_happened}
use Rattle.sds_world.specs.Playing.{IsAskedEvent, Plays, PlaysWorld}
use Rattle.sds_world.specs.Scening.{IsSaidLine, IsSoundDraft, MayStand, PlaysScene, draft_of}
use Rattle.sds_world.specs.declared.play.Draft as drafts
use Rattle.sds_world.specs.declared.play.Play.{Play}
use Rattle.sds_world.specs.declared.rehearsal.Rehearsal.{Rehearsal}

-- SCENES that a play plays differ in their worlds alone
abbrev scene_in : Play → World → Scene
scene_in play world = record { world = world; draft = option_map draft_of play.draft }

plays_in : (play : Play) (world : World) → PlaysWorld play.rehearsal world → PlaysScene play (scene_in play world)
plays_in play world plays = record { world = plays; draft = refl }

-- for all scenes that are played, if for those of the play's own draft
by_world : (P : Scene → Type 0) (play : Play) → ((world : World) → PlaysWorld play.rehearsal world → P (scene_in play world))
    → (scene : Scene) → PlaysScene play scene → P scene
by_world P play holds scene plays =
    subst (λ (draft : Option scenes.Draft). P (record { world = scene.world; draft = draft })) plays.draft (holds scene.world plays.world)

-- a line that may stand makes no node twice
last_test : (placed stand twice : Bool)
    → (if not placed then Some BadForm else (if not stand then Some UnknownName else (if twice then Some Twice else None))) ≡ None → twice ≡ false
last_test false stand twice is = absurd (cc)
last_test true false twice is = absurd (cc)
last_test true true true is = absurd (cc)
last_test true true false is = refl

not_twice : (play : Play) (said : ScenarioLine) → MayStand play said → (world : World) → PlaysWorld play.rehearsal world → is_twice world said ≡ false
not_twice play said may world plays =
    last_test (is_in_place (option_map draft_of play.draft) said) (names_stand play.rehearsal.stage.config world said) (is_twice world said)
    (may (scene_in play world) (plays_in play world plays))

-- DRAFTS
abbrev IsSound : scenes.Draft → Type 0
IsSound draft = IsTrue (is_name_text draft.writer && are_spelt draft.rows)

seen : (draft : Option drafts.Draft) → IfSome draft IsSoundDraft → IfSome (option_map draft_of draft) IsSound
seen None sound = tt
seen (Some draft) sound = sound

unseen : (draft : Option drafts.Draft) → IfSome (option_map draft_of draft) IsSound → IfSome draft IsSoundDraft
unseen None sound = tt
unseen (Some draft) sound = sound

one_more : (rows : List TxRow) (row : TxRow) → are_spelt rows ≡ true → are_fields row.fields ≡ true → are_spelt (rows ++ row ∷ []) ≡ true
one_more [] row are is = and_both (are_fields row.fields) true is refl
one_more (first ∷ rows) row are is =
    and_both (are_fields first.fields) (are_spelt (rows ++ row ∷ [])) (and_left (are_fields first.fields) (are_spelt rows) are)
    (one_more rows row (and_right (are_fields first.fields) (are_spelt rows) are) is)

with_more : (draft : Option scenes.Draft) (row : TxRow) → IfSome draft IsSound → are_fields row.fields ≡ true → IfSome (option_map (with_draft_row row) draft) IsSound
with_more None row sound is = tt
with_more (Some draft) row sound is =
    and_both (is_name_text draft.writer) (are_spelt (draft.rows ++ row ∷ [])) (and_left (is_name_text draft.writer) (are_spelt draft.rows) sound)
    (one_more draft.rows row (and_right (is_name_text draft.writer) (are_spelt draft.rows) sound) is)

after_line : (draft : Option scenes.Draft) (said : ScenarioLine) → IfSome draft IsSound → IsSaidLine said → IfSome (draft_after draft said) IsSound
after_line draft (Node me) sound is = tt
after_line draft (Open at group external) sound is = tt
after_line draft (Register asks at) sound is = tt
after_line draft (Write node writer number) sound is = and_both (is_name_text writer) true is refl
after_line draft (Row row) sound is = with_more draft row sound is
after_line draft End sound is = tt
after_line draft (Route node) sound is = tt
after_line draft (Send from to channels) sound is = tt
after_line draft (Deliver message channels) sound is = tt
after_line draft (Answer reply) sound is = tt
after_line draft (Push from to) sound is = tt
after_line draft (Pull to from) sound is = tt
after_line draft (Wire message) sound is = tt
after_line draft (Show node) sound is = tt
after_line draft (Batches node) sound is = tt
after_line draft (Crash node) sound is = tt
after_line draft (Fault node stands) sound is = tt

pub sound_after : (draft next : Option drafts.Draft) (said : ScenarioLine) → IfSome draft IsSoundDraft → IsSaidLine said
    → option_map draft_of next ≡ draft_after (option_map draft_of draft) said → IfSome next IsSoundDraft
sound_after draft next said sound is leads =
    unseen next (subst (λ (o : Option scenes.Draft). IfSome o IsSound) (sym leads) (after_line (option_map draft_of draft) said (seen draft sound) is))

-- EVENTS
write_asked : (draft : Option scenes.Draft) → IfSome draft IsSound → IfSome (option_map write_event draft) IsAskedEvent
write_asked None sound = tt
write_asked (Some draft) sound = sound

asked_at : (config : Config) (draft : Option scenes.Draft) (said : ScenarioLine) → IfSome draft IsSound → IsSaidLine said → IfSome (event_at config draft said) IsAskedEvent
asked_at config draft (Node me) sound is = is
asked_at config draft (Open at group external) sound is = is
asked_at config draft (Register asks at) sound is = tt
asked_at config draft (Write node writer number) sound is = tt
asked_at config draft (Row row) sound is = tt
asked_at config draft End sound is = write_asked draft sound
asked_at config draft (Route node) sound is = tt
asked_at config draft (Send from to channels) sound is = tt
asked_at config draft (Deliver message channels) sound is = tt
asked_at config draft (Answer reply) sound is = tt
asked_at config draft (Push from to) sound is = tt
asked_at config draft (Pull to from) sound is = tt
asked_at config draft (Wire message) sound is = tt
asked_at config draft (Show node) sound is = tt
asked_at config draft (Batches node) sound is = tt
asked_at config draft (Crash node) sound is = tt
asked_at config draft (Fault node stands) sound is = tt

pub asked_after : (config : Config) (draft : Option drafts.Draft) (said : ScenarioLine) (event : Option WorldEvent) → IfSome draft IsSoundDraft → IsSaidLine said
    → event ≡ event_at config (option_map draft_of draft) said → IfSome event IsAskedEvent
asked_after config draft said event sound is happens =
    subst (λ (o : Option WorldEvent). IfSome o IsAskedEvent) (sym happens) (asked_at config (option_map draft_of draft) said (seen draft sound) is)

none_by : (found : Option Stood) → is_some found ≡ false → found ≡ None
none_by None isnt = refl
none_by (Some node) isnt = absurd (true≢false isnt)

first_false : (a b : Bool) → (a || b) ≡ false → a ≡ false
first_false true b is = absurd (true≢false is)
first_false false b is = refl

write_new : (world : World) (draft : Option scenes.Draft) → IfSome (option_map write_event draft) (IsNew world)
write_new world None = tt
write_new world (Some draft) = tt

new_at : (config : Config) (world : World) (draft : Option scenes.Draft) (said : ScenarioLine) → is_twice world said ≡ false → IfSome (event_at config draft said) (IsNew world)
new_at config world draft (Node me) isnt = none_by (node_at world me.id) (first_false (is_node world me.id) (nat_le most_nodes (length world.nodes)) isnt)
new_at config world draft (Open at group external) isnt = tt
new_at config world draft (Register asks at) isnt = tt
new_at config world draft (Write node writer number) isnt = tt
new_at config world draft (Row row) isnt = tt
new_at config world draft End isnt = write_new world draft
new_at config world draft (Route node) isnt = tt
new_at config world draft (Send from to channels) isnt = tt
new_at config world draft (Deliver message channels) isnt = tt
new_at config world draft (Answer reply) isnt = tt
new_at config world draft (Push from to) isnt = tt
new_at config world draft (Pull to from) isnt = tt
new_at config world draft (Wire message) isnt = tt
new_at config world draft (Show node) isnt = tt
new_at config world draft (Batches node) isnt = tt
new_at config world draft (Crash node) isnt = tt
new_at config world draft (Fault node stands) isnt = tt

pub new_after : (play : Play) (said : ScenarioLine) (event : Option WorldEvent) → MayStand play said
    → event ≡ event_at play.rehearsal.stage.config (option_map draft_of play.draft) said
    → (world : World) → PlaysWorld play.rehearsal world → IfSome event (IsNew world)
new_after play said event may happens world plays =
    subst (λ (o : Option WorldEvent). IfSome o (IsNew world)) (sym happens)
    (new_at play.rehearsal.stage.config world (option_map draft_of play.draft) said (not_twice play said may world plays))

-- WHAT HAPPENS, if anything does
abbrev pub Leads : Rehearsal → Rehearsal → Option WorldEvent → Type 0
Leads old new event = (world : World) → PlaysWorld old world
    → PlaysWorld new (happened_if old.stage.config old.stage.noise world event).world

abbrev pub Prints : Rehearsal → List ℕ → List ℕ → Option WorldEvent → Type 0
Prints old before after event = (world : World) → PlaysWorld old world
    → after ≡ before ++ text_of_happened old.stage.config (happened_if old.stage.config old.stage.noise world event)

pub prints_by : {E : Type 0} (old new : Rehearsal) (before after : List ℕ) (event : Option WorldEvent) (it : WorldEvent) (end : Result (Unit {0}) E) → event ≡ Some it
    → OnOk end (Plays old new before after it) → ((world : World) → PlaysWorld old world → IfSome event (IsNew world))
    → OnOk end (Prints old before after event)
prints_by old new before after event it (Ok done) is goes newly = λ world plays.
    subst (λ (o : Option WorldEvent). after ≡ before ++ text_of_happened old.stage.config (happened_if old.stage.config old.stage.noise world o)) (sym is)
    (goes world plays (subst (λ (o : Option WorldEvent). IfSome o (IsNew world)) is (newly world plays))).writes
prints_by old new before after event it (Err none) is goes newly = tt

-- SCENES after a line
on_ok : {A E : Type 0} {P Q : Type 0} (end : Result A E) → OnOk end P → (P → Q) → OnOk end Q
on_ok (Ok done) is by = by is
on_ok (Err none) is by = tt

text_after : (old : Play) (after : List ℕ) (said : ScenarioLine) (event : Option WorldEvent)
    → event ≡ event_at old.rehearsal.stage.config (option_map draft_of old.draft) said → Prints old.rehearsal old.screen.items after event
    → (scene : Scene) → PlaysScene old scene → after ≡ old.screen.items ++ text_by old.rehearsal.stage.config old.rehearsal.stage.noise scene (Some said)
text_after old after said event happens prints = by_world
    (λ scene. after ≡ old.screen.items ++ text_by old.rehearsal.stage.config old.rehearsal.stage.noise scene (Some said)) old (λ world plays.
    subst (λ (o : Option WorldEvent). after ≡ old.screen.items
    ++ text_of_happened old.rehearsal.stage.config (happened_if old.rehearsal.stage.config old.rehearsal.stage.noise world o)) happens (prints world plays))

pub text_by_step : {A E : Type 0} (old mid : Play) (after : List ℕ) (said : ScenarioLine) (event : Option WorldEvent) (end : Result A E)
    → mid.rehearsal ≡ old.rehearsal → mid.screen.items ≡ old.screen.items → event ≡ event_at old.rehearsal.stage.config (option_map draft_of old.draft) said
    → OnOk end (Prints mid.rehearsal mid.screen.items after event)
    → OnOk end ((scene : Scene) → PlaysScene old scene → after ≡ old.screen.items ++ text_by old.rehearsal.stage.config old.rehearsal.stage.noise scene (Some said))
text_by_step old mid after said event end stays still happens prints =
    on_ok end prints (λ says. text_after old after said event happens
    (subst (λ (r : Rehearsal). Prints r old.screen.items after event) stays
    (subst (λ (items : List ℕ). Prints mid.rehearsal items after event) still says)))

scene_after : (old mid new : Play) (said : ScenarioLine) (event : Option WorldEvent) → mid.rehearsal ≡ old.rehearsal
    → event ≡ event_at old.rehearsal.stage.config (option_map draft_of old.draft) said → option_map draft_of mid.draft ≡ draft_after (option_map draft_of old.draft) said
    → new.draft ≡ mid.draft → Leads mid.rehearsal new.rehearsal event → (scene : Scene) → PlaysScene old scene
    → PlaysScene new (scene_by old.rehearsal.stage.config old.rehearsal.stage.noise scene (Some said))
scene_after old mid new said event same happens drafts draft leads scene plays = record {
  world = subst (λ (o : Option WorldEvent). PlaysWorld new.rehearsal (happened_if old.rehearsal.stage.config old.rehearsal.stage.noise scene.world o).world)
      (happens ∙ ap (λ (d : Option scenes.Draft). event_at old.rehearsal.stage.config d said) plays.draft)
      ((subst (λ (r : Rehearsal). Leads r new.rehearsal event) same leads) scene.world plays.world);
  draft = ap (option_map draft_of) draft ∙ (drafts ∙ ap (λ (d : Option scenes.Draft). draft_after d said) plays.draft);
}

pub scene_by_step : {A E : Type 0} (old mid new : Play) (said : ScenarioLine) (event : Option WorldEvent) (end : Result A E) → mid.rehearsal ≡ old.rehearsal
    → event ≡ event_at old.rehearsal.stage.config (option_map draft_of old.draft) said → option_map draft_of mid.draft ≡ draft_after (option_map draft_of old.draft) said
    → OnOk end (new.draft ≡ mid.draft) → OnOk end (Leads mid.rehearsal new.rehearsal event)
    → OnOk end ((scene : Scene) → PlaysScene old scene → PlaysScene new (scene_by old.rehearsal.stage.config old.rehearsal.stage.noise scene (Some said)))
scene_by_step old mid new said event (Ok done) same happens drafts draft leads = scene_after old mid new said event same happens drafts draft leads
scene_by_step old mid new said event (Err none) same happens drafts draft leads = tt
