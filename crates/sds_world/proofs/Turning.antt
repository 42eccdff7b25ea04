-- The lines of a scenario, one after another, as its text comes.
use Rattle.std.proofs.Common.{◌≡◌, ◌≢◌, ℕ, ◌<◌, Bool, true, false, not, List, [], ◌∷◌, ◌++◌, length, Option, None, Some, Result, Ok, Err, refl, sym, ap, subst, ◌∙◌, arith, append-nil, append_assoc}
use Rattle.std.specs.Prelude.{if◌then◌else◌, is_some, option_map, IfSome}
use Rattle.std.proofs.lemmas.List.{append_cancel_left}
use Rattle.sds_base.specs.declared.memory.NoMemory.{NoMemory}
use Rattle.sds_line.specs.declared.line.Line.{Line}
use Rattle.sds_line.specs.declared.refusal.LineRefusal.{LineRefusal}
use Rattle.sds_line.specs.declared.refusal.LineRefusal.TheVariants as line_refusal
use Rattle.sds_line.specs.Splitting.{Split, Fed, Follows, Answers, IsEnd, is_finished, left, lines_in, next_number, number_or}
use Rattle.sds_types.specs.declared.config.Config.{Config}
use Rattle.sds_types.specs.declared.scenario.ScenarioCause.{ScenarioCause}
use Rattle.sds_types.specs.declared.scenario.ScenarioCause.TheVariants.{BadForm, UnknownName, Twice, TooLong, Unfinished}
use Rattle.sds_types.specs.declared.scenario.ScenarioLine.{ScenarioLine}
use Rattle.sds_scenario.specs.Lines.{line_of}
use Rattle.sds_screen.specs.Causes.{cause_of, is_in_place, is_twice, names_stand}
use Rattle.sds_screen.specs.Scenes.{Scene, first_scene}
use Rattle.sds_screen.specs.Scenes as scenes
use Rattle.sds_screen.specs.Screen.{end_refusal, refusal_from, refused_line, scene_by, screen_from, text_by}
use Rattle.sds_screen.specs.WorldAt.{scene_after}
use Rattle.sds_world.specs.Reading.{Reads, IsFront, Turns, Goes, Ends, GoesOn, Plays, bad_line, stop_of}
use Rattle.sds_world.specs.Scening.{IsPlay, PlaysScene, draft_of}
use Rattle.sds_world.specs.Told.{IsCause}
use Rattle.sds_world.specs.declared.play.Draft as drafts
use Rattle.sds_world.specs.declared.play.Play.{Play}
use Rattle.sds_world.specs.declared.text.Stop.{Stop}
use Rattle.sds_world.proofs.Fronts.{more_front, same_front, end_front}

-- A LINE by what it says
some_same : {A : Type 0} (x y : A) → Some x ≡ Some y → x ≡ y
some_same x y is = cc

no_cause : (number : ℕ) (cause : Option ScenarioCause) → option_map (stop_of number) cause ≡ None → cause ≡ None
no_cause number None is = refl
no_cause number (Some cause) is = absurd (cc)

-- the causes of lines are those of a rehearsal
twice_cause : (t : Bool) (cause : ScenarioCause) → (if t then Some Twice else None) ≡ Some cause → IsCause cause
twice_cause true cause is = subst IsCause (some_same Twice cause is) tt
twice_cause false cause is = absurd (cc)

names_cause : (t : Bool) (later : Option ScenarioCause) (cause : ScenarioCause) → ((cause : ScenarioCause) → later ≡ Some cause → IsCause cause)
    → (if t then Some UnknownName else later) ≡ Some cause → IsCause cause
names_cause true later cause on is = subst IsCause (some_same UnknownName cause is) tt
names_cause false later cause on is = on cause is

place_cause : (t : Bool) (later : Option ScenarioCause) (cause : ScenarioCause) → ((cause : ScenarioCause) → later ≡ Some cause → IsCause cause)
    → (if t then Some BadForm else later) ≡ Some cause → IsCause cause
place_cause true later cause on is = subst IsCause (some_same BadForm cause is) tt
place_cause false later cause on is = on cause is

line_cause : (config : Config) (scene : Scene) (said : Option ScenarioLine) (cause : ScenarioCause) → cause_of config scene said ≡ Some cause → IsCause cause
line_cause config scene None cause is = subst IsCause (some_same BadForm cause is) tt
line_cause config scene (Some said) cause is =
    place_cause (not (is_in_place scene.draft said)) _ cause
    (λ cause is. names_cause (not (names_stand config scene.world said)) _ cause (λ cause is. twice_cause (is_twice scene.world said) cause is) is) is

stop_cause : (number : ℕ) (cause : Option ScenarioCause) (bad : Option Stop) → bad ≡ option_map (stop_of number) cause
    → ((found : ScenarioCause) → cause ≡ Some found → IsCause found) → IfSome bad (λ (b : Stop). IsCause b.cause)
stop_cause number None None is on = tt
stop_cause number None (Some bad) is on = absurd (cc)
stop_cause number (Some cause) None is on = absurd (cc)
stop_cause number (Some cause) (Some bad) is on =
    subst (λ (b : Stop). IsCause b.cause) (sym (some_same bad (stop_of number cause) is)) (on cause refl)

-- some scene is played
pub cause_told : (play : Play) (number : ℕ) (said : Option ScenarioLine) (cause : Option ScenarioCause) (bad : Option Stop) → IsPlay play
    → ((scene : Scene) → PlaysScene play scene → cause ≡ cause_of play.rehearsal.stage.config scene said) → bad ≡ option_map (stop_of number) cause
    → IfSome bad (λ (b : Stop). IsCause b.cause)
cause_told play number said cause bad is caused bads =
    let scene : Scene = record { world = is.rehearsal.world; draft = option_map draft_of play.draft } in
    let at : PlaysScene play scene = record { world = is.rehearsal.plays; draft = refl } in
    stop_cause number cause bad bads
    (λ found here. line_cause play.rehearsal.stage.config scene said found (sym (caused scene at) ∙ here))

-- what is left of the lines behind those that were taken begins with the next one
next_is : (whole : Split) (taken rest : List Line) (line : Line) (more : List Line) → whole.lines ≡ taken ++ rest → whole.lines ≡ (taken ++ line ∷ []) ++ more → rest ≡ line ∷ more
next_is whole taken rest line more lines next = append_cancel_left taken rest (line ∷ more) (sym lines ∙ (next ∙ append_assoc taken (line ∷ []) more))

none_left : (front xs : List Line) → front ++ xs ≡ front → xs ≡ []
none_left front xs is = append_cancel_left front xs [] (is ∙ sym (append-nil front))

-- A LINE THAT MAY STAND
screen_on : (config : Config) (noise : List ℕ) (scene : Scene) (line : Line) (lines : List Line) → cause_of config scene (line_of line.fields) ≡ None
    → screen_from config noise scene (line ∷ lines)
    ≡ text_by config noise scene (line_of line.fields) ++ screen_from config noise (scene_by config noise scene (line_of line.fields)) lines
screen_on config noise scene line lines is = rw is refl

refusal_on : (config : Config) (noise : List ℕ) (is_over : Bool) (whole : Split) (scene : Scene) (line : Line) (lines : List Line)
    → cause_of config scene (line_of line.fields) ≡ None
    → refusal_from config noise is_over whole scene (line ∷ lines) ≡ refusal_from config noise is_over whole (scene_by config noise scene (line_of line.fields)) lines
refusal_on config noise is_over whole scene line lines is = rw (is, refusal_from) refl

after_on : (config : Config) (noise : List ℕ) (scene : Scene) (line : Line) (lines : List Line) → cause_of config scene (line_of line.fields) ≡ None
    → scene_after config noise scene (line ∷ lines) ≡ scene_after config noise (scene_by config noise scene (line_of line.fields)) lines
after_on config noise scene line lines is = rw is refl

-- ONE THAT MAY NOT
screen_off : (config : Config) (noise : List ℕ) (scene : Scene) (line : Line) (lines : List Line) (cause : ScenarioCause)
    → cause_of config scene (line_of line.fields) ≡ Some cause → screen_from config noise scene (line ∷ lines) ≡ []
screen_off config noise scene line lines cause is = rw is refl

refusal_off : (config : Config) (noise : List ℕ) (is_over : Bool) (whole : Split) (scene : Scene) (line : Line) (lines : List Line) (cause : ScenarioCause)
    → cause_of config scene (line_of line.fields) ≡ Some cause
    → refusal_from config noise is_over whole scene (line ∷ lines) ≡ Some (refused_line line.number cause)
refusal_off config noise is_over whole scene line lines cause is = rw (is, refusal_from) refl

after_off : (config : Config) (noise : List ℕ) (scene : Scene) (line : Line) (lines : List Line) (cause : ScenarioCause)
    → cause_of config scene (line_of line.fields) ≡ Some cause → scene_after config noise scene (line ∷ lines) ≡ scene
after_off config noise scene line lines cause is = rw is refl

abbrev Shown : Config → List ℕ → Split → List ℕ → Scene → List Line → Type 0
Shown config noise whole screen scene rest = screen ++ screen_from config noise scene rest ≡ screen_from config noise first_scene whole.lines

abbrev Refused : Config → List ℕ → Bool → Split → Scene → List Line → Type 0
Refused config noise is_over whole scene rest = refusal_from config noise is_over whole scene rest ≡ refusal_from config noise is_over whole first_scene whole.lines

abbrev Left : Config → List ℕ → Split → Scene → List Line → Type 0
Left config noise whole scene rest = scene_after config noise scene rest ≡ scene_after config noise first_scene whole.lines

shown_on : (config : Config) (noise : List ℕ) (whole : Split) (screen next : List ℕ) (scene : Scene) (line : Line) (more : List Line)
    → cause_of config scene (line_of line.fields) ≡ None → next ≡ screen ++ text_by config noise scene (line_of line.fields)
    → Shown config noise whole screen scene (line ∷ more) → Shown config noise whole next (scene_by config noise scene (line_of line.fields)) more
shown_on config noise whole screen next scene line more may printed shown =
    let later : List ℕ = screen_from config noise (scene_by config noise scene (line_of line.fields)) more in
    ap (λ (l : List ℕ). l ++ later) printed
    ∙ (append_assoc screen (text_by config noise scene (line_of line.fields)) later
    ∙ (ap (λ (l : List ℕ). screen ++ l) (sym (screen_on config noise scene line more may)) ∙ shown))

-- a play of a configuration and a noise takes a line of these
pub record Taken (config : Config) (noise : List ℕ) (old new : Play) (line : Line) (bad : Option Stop) (scene : Scene) : Type 0 where
  pub is_bad : bad ≡ option_map (stop_of line.number) (cause_of config scene (line_of line.fields))
  pub plays : bad ≡ None → PlaysScene new (scene_by config noise scene (line_of line.fields))
  pub prints : bad ≡ None → new.screen.items ≡ old.screen.items ++ text_by config noise scene (line_of line.fields)

taken_by : (config : Config) (noise : List ℕ) (old new : Play) (line : Line) (bad : Option Stop) (scene : Scene) → old.rehearsal.stage.config ≡ config
    → old.rehearsal.stage.noise ≡ noise → Turns old new line bad → PlaysScene old scene → Taken config noise old new line bad scene
taken_by config noise old new line bad scene by noised turns at = record {
  is_bad = turns.is_bad scene at ∙ ap (λ (c : Config). option_map (stop_of line.number) (cause_of c scene (line_of line.fields))) by;
  plays = λ none. subst (λ (n : List ℕ). PlaysScene new (scene_by config n scene (line_of line.fields))) noised
      (subst (λ (c : Config). PlaysScene new (scene_by c old.rehearsal.stage.noise scene (line_of line.fields))) by (turns.plays none scene at));
  prints = λ none. turns.prints none scene at
      ∙ (ap (λ (c : Config). old.screen.items ++ text_by c old.rehearsal.stage.noise scene (line_of line.fields)) by
      ∙ ap (λ (n : List ℕ). old.screen.items ++ text_by config n scene (line_of line.fields)) noised);
}

goes_on : (config : Config) (noise : List ℕ) (is_over : Bool) (whole : Split) (taken : List Line) (line : Line) (more : List Line) (old new : Play) (bad : Option Stop)
    → whole.lines ≡ (taken ++ line ∷ []) ++ more → Turns old new line bad → bad ≡ None → Goes config noise is_over whole taken old
    → Goes config noise is_over whole (taken ++ line ∷ []) new
goes_on config noise is_over whole taken line more old new bad next turns is g =
    let took : Taken config noise old new line bad g.scene = taken_by config noise old new line bad g.scene g.config_is g.noise_is turns g.plays in
    let may : cause_of config g.scene (line_of line.fields) ≡ None = no_cause line.number (cause_of config g.scene (line_of line.fields)) (sym took.is_bad ∙ is) in
    let rest : g.rest ≡ line ∷ more = next_is whole taken g.rest line more g.lines next in
    record {
      config_is = turns.config ∙ g.config_is;
      noise_is = turns.noise ∙ g.noise_is;
      rest = more;
      lines = next;
      scene = scene_by config noise g.scene (line_of line.fields);
      plays = took.plays is;
      shown = shown_on config noise whole old.screen.items new.screen.items g.scene line more may (took.prints is)
          (subst (λ (l : List Line). Shown config noise whole old.screen.items g.scene l) rest g.shown);
      refused = sym (refusal_on config noise is_over whole g.scene line more may)
          ∙ subst (λ (l : List Line). Refused config noise is_over whole g.scene l) rest g.refused;
      after = sym (after_on config noise g.scene line more may) ∙ subst (λ (l : List Line). Left config noise whole g.scene l) rest g.after;
    }

nothing_more : (screen more all : List ℕ) → more ≡ [] → screen ++ more ≡ all → screen ≡ all
nothing_more screen more all none shown = sym (append-nil screen) ∙ (ap (λ (l : List ℕ). screen ++ l) (sym none) ∙ shown)

-- all stands as it stood before a line that may not
stays_at : (config : Config) (noise : List ℕ) (is_over : Bool) (whole : Split) (line : Line) (more : List Line) (old : Play) (scene : Scene) (cause : ScenarioCause)
    → old.rehearsal.stage.config ≡ config → PlaysScene old scene → cause_of config scene (line_of line.fields) ≡ Some cause
    → Shown config noise whole old.screen.items scene (line ∷ more) → Refused config noise is_over whole scene (line ∷ more) → Left config noise whole scene (line ∷ more)
    → Ends config noise is_over whole old (Some (stop_of line.number cause))
stays_at config noise is_over whole line more old scene cause by at is shown refused left = record {
  config_is = by;
  plays = subst (λ (s : Scene). PlaysScene old s) (sym (after_off config noise scene line more cause is) ∙ left) at;
  shown = nothing_more old.screen.items (screen_from config noise scene (line ∷ more)) _ (screen_off config noise scene line more cause is) shown;
  refused = sym (refusal_off config noise is_over whole scene line more cause is) ∙ refused;
}

ends_by_cause : (config : Config) (noise : List ℕ) (is_over : Bool) (whole : Split) (line : Line) (more : List Line) (old : Play) (scene : Scene)
    (cause : Option ScenarioCause) (bad : Stop) → cause_of config scene (line_of line.fields) ≡ cause → Some bad ≡ option_map (stop_of line.number) cause
    → old.rehearsal.stage.config ≡ config → PlaysScene old scene
    → Shown config noise whole old.screen.items scene (line ∷ more) → Refused config noise is_over whole scene (line ∷ more) → Left config noise whole scene (line ∷ more)
    → Ends config noise is_over whole old (Some bad)
ends_by_cause config noise is_over whole line more old scene None bad is bads by at shown refused left = absurd (cc)
ends_by_cause config noise is_over whole line more old scene (Some cause) bad is bads by at shown refused left =
    subst (λ (o : Option Stop). Ends config noise is_over whole old o) (sym bads)
    (stays_at config noise is_over whole line more old scene cause by at is shown refused left)

ends_at : (config : Config) (noise : List ℕ) (is_over : Bool) (whole : Split) (taken : List Line) (line : Line) (more : List Line) (old new : Play) (bad : Option Stop) (stop : Stop)
    → whole.lines ≡ (taken ++ line ∷ []) ++ more → Turns old new line bad → bad ≡ Some stop → Goes config noise is_over whole taken old
    → Ends config noise is_over whole new (Some stop)
ends_at config noise is_over whole taken line more old new bad stop next turns is g =
    let took : Taken config noise old new line bad g.scene = taken_by config noise old new line bad g.scene g.config_is g.noise_is turns g.plays in
    let rest : g.rest ≡ line ∷ more = next_is whole taken g.rest line more g.lines next in
    subst (λ (p : Play). Ends config noise is_over whole p (Some stop)) (sym (turns.stays (ap (λ (o : Option Stop). is_some o) is)))
    (ends_by_cause config noise is_over whole line more old g.scene (cause_of config g.scene (line_of line.fields)) stop refl (sym is ∙ took.is_bad) g.config_is g.plays
    (subst (λ (l : List Line). Shown config noise whole old.screen.items g.scene l) rest g.shown)
    (subst (λ (l : List Line). Refused config noise is_over whole g.scene l) rest g.refused)
    (subst (λ (l : List Line). Left config noise whole g.scene l) rest g.after))

-- NO LINE IS LEFT
number_by : (number : ℕ) (lines : List Line) → lines ≡ [] → number_or number lines ≡ number
number_by number lines none = ap (number_or number) none

number_is : (text : List ℕ) (taken : List Line) (finished : Bool) (v : Fed) → Follows text taken finished v → (lines_in finished text).lines ≡ taken
    → next_number (left v) ≡ (lines_in finished text).last.number
number_is text taken finished v f all =
    let none : (left v).lines ≡ [] = none_left taken (left v).lines (ap (λ (s : Split). s.lines) f.reads ∙ all) in
    number_by (left v).last.number (left v).lines none ∙ ap (λ (s : Split). s.last.number) f.reads

ends_by : (config : Config) (noise : List ℕ) (is_over : Bool) (whole : Split) (taken : List Line) (play : Play) (bad : Option Stop) → whole.lines ≡ taken
    → (g : Goes config noise is_over whole taken play) → option_map bad_line bad ≡ end_refusal is_over whole g.scene.draft → Ends config noise is_over whole play bad
ends_by config noise is_over whole taken play bad all g is =
    let none : g.rest ≡ [] = none_left taken g.rest (sym g.lines ∙ all) in
    record {
      config_is = g.config_is;
      plays = subst (λ (s : Scene). PlaysScene play s) (subst (λ (l : List Line). Left config noise whole g.scene l) none g.after) g.plays;
      shown = nothing_more play.screen.items (screen_from config noise g.scene g.rest) _ (ap (λ (l : List Line). screen_from config noise g.scene l) none) g.shown;
      refused = is ∙ (ap (λ (l : List Line). refusal_from config noise is_over whole g.scene l) (sym none) ∙ g.refused);
    }

-- why: the line is of no line's form
stop_refusal : (is_over : Bool) (whole : Split) (scene : Scene) (number : ℕ) → is_some whole.stop ≡ true → number ≡ whole.last.number
    → Some (refused_line number BadForm) ≡ end_refusal is_over whole scene.draft
stop_refusal is_over whole scene number stops is = rw (is, stops) refl

-- or it holds the first byte too many
long_refusal : (whole : Split) (scene : Scene) (number : ℕ) → whole.stop ≡ None → number ≡ whole.last.number
    → Some (refused_line number TooLong) ≡ end_refusal true whole scene.draft
long_refusal whole scene number goes is = rw (is, goes) refl

-- or the scenario ends inside a write
draft_same : (play : Play) (scene : Scene) (t : Bool) → PlaysScene play scene → is_some play.draft ≡ t → is_some scene.draft ≡ t
draft_same play scene t at is = sym (mapped play.draft scene.draft at.draft) ∙ is
  where
    mapped_some : {A B : Type 0} (f : A → B) (o : Option A) → is_some (option_map f o) ≡ is_some o
    mapped_some f None = refl
    mapped_some f (Some x) = refl

    mapped : (draft : Option drafts.Draft) (seen : Option scenes.Draft) → option_map draft_of draft ≡ seen → is_some draft ≡ is_some seen
    mapped draft seen same = sym (mapped_some draft_of draft) ∙ ap (λ (o : Option scenes.Draft). is_some o) same

open_refusal : (whole : Split) (scene : Scene) (number : ℕ) → whole.stop ≡ None → number ≡ whole.last.number → is_some scene.draft ≡ true
    → Some (refused_line number Unfinished) ≡ end_refusal false whole scene.draft
open_refusal whole scene number goes is draft = rw (is, goes, draft) refl

-- or there is none
no_refusal : (whole : Split) (scene : Scene) → whole.stop ≡ None → is_some scene.draft ≡ false → None ≡ end_refusal false whole scene.draft
no_refusal whole scene goes draft = rw (goes, draft) refl

-- A READER AND A PLAY between two lines
pub record Midway (config : Config) (noise : List ℕ) (is_over : Bool) (whole : Split) (text : List ℕ) (finished : Bool) (reader : Fed) (play : Play) : Type 0 where
  pub taken : List Line
  pub follows : Follows text taken finished reader
  pub goes : Goes config noise is_over whole taken play

split_lines : (text : List ℕ) (taken : List Line) (finished : Bool) (v : Fed) → Follows text taken finished v → (lines_in finished text).lines ≡ taken ++ (left v).lines
split_lines text taken finished v f = ap (λ (s : Split). s.lines) (sym f.reads)

whole_lines : (whole : Split) (text : List ℕ) (taken : List Line) (finished : Bool) (v : Fed) → Follows text taken finished v → (front : IsFront (lines_in finished text) whole)
    → whole.lines ≡ taken ++ ((left v).lines ++ front.rest)
whole_lines whole text taken finished v f front =
    front.lines ∙ (ap (λ (l : List Line). l ++ front.rest) (split_lines text taken finished v f) ∙ append_assoc taken (left v).lines front.rest)

-- a line that is taken leaves fewer
pub fewer : (text : List ℕ) (taken : List Line) (line : Line) (finished : Bool) (old new : Fed) → Follows text taken finished old → Follows text (taken ++ line ∷ []) finished new
    → length (left new).lines < length (left old).lines
fewer text taken line finished old new f g =
    let same : taken ++ (left old).lines ≡ (taken ++ line ∷ []) ++ (left new).lines =
    sym (split_lines text taken finished old f) ∙ split_lines text (taken ++ line ∷ []) finished new g in
    let next : (left old).lines ≡ line ∷ (left new).lines =
    append_cancel_left taken (left old).lines (line ∷ (left new).lines) (same ∙ append_assoc taken (line ∷ []) (left new).lines) in
    let count : length (left old).lines ≡ length (line ∷ (left new).lines) = ap length next in
    omega (arith, count)

abbrev pub TakesLine : Fed → Fed → Line → Type 0
TakesLine old new line = (text : List ℕ) (taken : List Line) (finished : Bool) → Follows text taken finished old → Follows text (taken ++ line ∷ []) finished new

pub midway_on : (config : Config) (noise : List ℕ) (is_over : Bool) (whole : Split) (text : List ℕ) (finished : Bool) (reader later : Fed) (old new : Play) (line : Line)
    (bad : Option Stop) → TakesLine reader later line → IsFront (lines_in finished text) whole → Turns old new line bad → bad ≡ None
    → Midway config noise is_over whole text finished reader old → Midway config noise is_over whole text finished later new
midway_on config noise is_over whole text finished reader later old new line bad takes front turns is mid =
    let f : Follows text (mid.taken ++ line ∷ []) finished later = takes text mid.taken finished mid.follows in
    record {
      taken = mid.taken ++ line ∷ [];
      follows = f;
      goes = goes_on config noise is_over whole mid.taken line ((left later).lines ++ front.rest) old new bad
          (whole_lines whole text (mid.taken ++ line ∷ []) finished later f front) turns is mid.goes;
    }

pub midway_off : (config : Config) (noise : List ℕ) (is_over : Bool) (whole : Split) (text : List ℕ) (finished : Bool) (reader later : Fed) (old new : Play) (line : Line)
    (bad : Option Stop) (stop : Stop) → TakesLine reader later line → IsFront (lines_in finished text) whole → Turns old new line bad → bad ≡ Some stop
    → Midway config noise is_over whole text finished reader old → Ends config noise is_over whole new (Some stop)
midway_off config noise is_over whole text finished reader later old new line bad stop takes front turns is mid =
    let f : Follows text (mid.taken ++ line ∷ []) finished later = takes text mid.taken finished mid.follows in
    ends_at config noise is_over whole mid.taken line ((left later).lines ++ front.rest) old new bad stop
    (whole_lines whole text (mid.taken ++ line ∷ []) finished later f front) turns is mid.goes

-- why no line follows
pub refused_answer : (text : List ℕ) (taken : List Line) (finished : Bool) (refusal : LineRefusal) (new : Fed) → refusal ≢ line_refusal.NoMemory
    → Answers text taken finished (Err refusal) new → IsEnd text taken finished (Some refusal) × Follows text taken finished new
refused_answer text taken finished line_refusal.BareQuote new other answer = answer
refused_answer text taken finished line_refusal.OpenQuote new other answer = answer
refused_answer text taken finished line_refusal.BadEscape new other answer = answer
refused_answer text taken finished line_refusal.LineTooLong new other answer = answer
refused_answer text taken finished line_refusal.NotUtf8 new other answer = answer
refused_answer text taken finished line_refusal.NoMemory new other answer = absurd (other refl)

pub midway_refused : (config : Config) (noise : List ℕ) (is_over : Bool) (whole : Split) (text : List ℕ) (finished : Bool) (reader later : Fed) (play : Play)
    (refusal : LineRefusal) (number : ℕ)
    → ((text : List ℕ) (taken : List Line) (finished : Bool) → Follows text taken finished reader → IsEnd text taken finished (Some refusal) × Follows text taken finished later)
    → number ≡ next_number (left later) → IsFront (lines_in finished text) whole → Midway config noise is_over whole text finished reader play
    → Ends config noise is_over whole play (Some (stop_of number BadForm))
midway_refused config noise is_over whole text finished reader later play refusal number ends is front mid =
    let both : IsEnd text mid.taken finished (Some refusal) × Follows text mid.taken finished later = ends text mid.taken finished mid.follows in
    let stops : is_some (lines_in finished text).stop ≡ true = ap (λ (o : Option LineRefusal). is_some o) both.0.behind_all in
    let same : whole ≡ lines_in finished text = front.refused stops in
    ends_by config noise is_over whole mid.taken play (Some (stop_of number BadForm)) (ap (λ (s : Split). s.lines) same ∙ both.0.all) mid.goes
    (stop_refusal is_over whole mid.goes.scene number (ap (λ (s : Split). is_some s.stop) same ∙ stops)
    (is ∙ (number_is text mid.taken finished later both.1 both.0.all ∙ ap (λ (s : Split). s.last.number) (sym same))))

pub midway_none : (config : Config) (noise : List ℕ) (is_over : Bool) (whole : Split) (text : List ℕ) (finished : Bool) (reader later : Fed) (play : Play)
    → ((text : List ℕ) (taken : List Line) (finished : Bool) → Follows text taken finished reader → IsEnd text taken finished None × Follows text taken finished later)
    → Midway config noise is_over whole text finished reader play → GoesOn config noise is_over whole text finished play later
midway_none config noise is_over whole text finished reader later play ends mid =
    let both : IsEnd text mid.taken finished None × Follows text mid.taken finished later = ends text mid.taken finished mid.follows in
    record { taken = mid.taken; follows = both.1; all = both.0; goes = mid.goes }

-- a reader that gave no line is still one
pub still_reads : (reader later : Fed)
    → ((text : List ℕ) (taken : List Line) (finished : Bool) → Follows text taken finished reader → IsEnd text taken finished None × Follows text taken finished later)
    → Reads reader → Reads later
still_reads reader later ends reads =
    record { text = reads.text; taken = reads.taken; finished = reads.finished; follows = (ends reads.text reads.taken reads.finished reads.follows).1 }

-- A PIECE MORE
abbrev pub TakesPiece : Fed → Fed → List ℕ → Type 0
TakesPiece old new piece = (text : List ℕ) (taken : List Line) → Follows text taken false old → Follows (text ++ piece) taken false new

fed_by : (reader later : Fed) (piece : List ℕ) (text : List ℕ) (taken : List Line) (finished : Bool) → finished ≡ false → TakesPiece reader later piece
    → Follows text taken finished reader → Reads later
fed_by reader later piece text taken true is takes f = absurd (cc)
fed_by reader later piece text taken false is takes f = record { text = text ++ piece; taken = taken; finished = false; follows = takes text taken f }

pub fed_reads : (reader later : Fed) (piece : List ℕ) → TakesPiece reader later piece → is_finished reader.phase ≡ false → Reads reader → Reads later
fed_reads reader later piece takes is reads = fed_by reader later piece reads.text reads.taken reads.finished (sym reads.follows.phase ∙ is) takes reads.follows

abbrev pub PlaysReady : Fed → Fed → Play → Play → Result (Option Stop) NoMemory → Type 0
PlaysReady reader later old new result = (config : Config) (noise text : List ℕ) (taken : List Line) (finished is_over : Bool) (whole : Split)
    → IsFront (lines_in finished text) whole → Follows text taken finished reader → Goes config noise is_over whole taken old
    → Plays config noise is_over whole text finished result new later

pub piece_played : (config : Config) (noise : List ℕ) (is_over : Bool) (whole : Split) (text fed piece rest later : List ℕ) (reader given next : Fed) (old new : Play)
    (result : Result (Option Stop) NoMemory) → fed ++ rest ≡ text → rest ≡ piece ++ later → TakesPiece reader given piece → PlaysReady given next old new result
    → IsFront (lines_in false text) whole → GoesOn config noise is_over whole fed false old reader → Plays config noise is_over whole (fed ++ piece) false result new next
piece_played config noise is_over whole text fed piece rest later reader given next old new result is parts takes plays front g =
    let all : text ≡ (fed ++ piece) ++ later = sym is ∙ (ap (λ (l : List ℕ). fed ++ l) parts ∙ sym (append_assoc fed piece later)) in
    plays config noise (fed ++ piece) g.taken false is_over whole
    (more_front whole (fed ++ piece) later (subst (λ (l : List ℕ). IsFront (lines_in false l) whole) all front)) (takes fed g.taken g.follows) g.goes

pub piece_fed : (text fed piece rest later : List ℕ) → fed ++ rest ≡ text → rest ≡ piece ++ later → (fed ++ piece) ++ later ≡ text
piece_fed text fed piece rest later is parts = append_assoc fed piece later ∙ (ap (λ (l : List ℕ). fed ++ l) (sym parts) ∙ is)

pub all_played : (config : Config) (noise : List ℕ) (is_over : Bool) (whole : Split) (text fed rest : List ℕ) (reader : Fed) (play : Play) → fed ++ rest ≡ text → rest ≡ []
    → GoesOn config noise is_over whole fed false play reader → GoesOn config noise is_over whole text false play reader
all_played config noise is_over whole text fed rest reader play is none g =
    subst (λ (l : List ℕ). GoesOn config noise is_over whole l false play reader) (sym (append-nil fed) ∙ (ap (λ (l : List ℕ). fed ++ l) (sym none) ∙ is)) g

-- before the first byte
pub none_played : (config : Config) (noise : List ℕ) (is_over : Bool) (whole : Split) (reader : Fed) (play : Play) → Follows [] [] false reader
    → Goes config noise is_over whole [] play → GoesOn config noise is_over whole [] false play reader
none_played config noise is_over whole reader play f g = record {
  taken = [];
  follows = f;
  all = record { all = refl; behind_all = refl };
  goes = g;
}

pub first_goes : (config : Config) (noise : List ℕ) (is_over : Bool) (whole : Split) (play : Play) → play.rehearsal.stage.config ≡ config → play.rehearsal.stage.noise ≡ noise
    → PlaysScene play first_scene → play.screen.items ≡ [] → Goes config noise is_over whole [] play
first_goes config noise is_over whole play config_is noise_is at blank = record {
  config_is = config_is;
  noise_is = noise_is;
  rest = whole.lines;
  lines = refl;
  scene = first_scene;
  plays = at;
  shown = ap (λ (l : List ℕ). l ++ screen_from config noise first_scene whole.lines) blank;
  refused = refl;
  after = refl;
}

-- ALL PIECES, and the answer as it is matched
abbrev pub PlaysPieces : Fed → Play → Play → List ℕ → Result (Option Stop) NoMemory → Type 0
PlaysPieces later old new text result = (config : Config) (noise : List ℕ) (is_over : Bool) (whole : Split) → IsFront (lines_in false text) whole
    → Goes config noise is_over whole [] old → Plays config noise is_over whole text false result new later

pub pieces_played : (config : Config) (noise : List ℕ) (is_over : Bool) (text : List ℕ) (later : Fed) (old new : Play) (answer bad : Option Stop)
    → PlaysPieces later old new text (Ok answer) → answer ≡ bad → Goes config noise is_over (lines_in (not is_over) text) [] old
    → Plays config noise is_over (lines_in (not is_over) text) text false (Ok bad) new later
pieces_played config noise is_over text later old new answer bad plays is g =
    subst (λ (o : Option Stop). Plays config noise is_over (lines_in (not is_over) text) text false (Ok o) new later) is
    (plays config noise is_over (lines_in (not is_over) text) (end_front (not is_over) text) g)

-- THE END of a text
pub long_ends : (config : Config) (noise : List ℕ) (is_over : Bool) (text : List ℕ) (reader : Fed) (play : Play) (number : ℕ) → is_over ≡ true → number ≡ next_number (left reader)
    → GoesOn config noise is_over (lines_in (not is_over) text) text false play reader → Ends config noise is_over (lines_in (not is_over) text) play (Some (stop_of number TooLong))
long_ends config noise true text reader play number is numbered g =
    ends_by config noise true (lines_in false text) g.taken play (Some (stop_of number TooLong)) g.all.all g.goes
    (long_refusal (lines_in false text) g.goes.scene number g.all.behind_all (numbered ∙ number_is text g.taken false reader g.follows g.all.all))
long_ends config noise false text reader play number is numbered g = absurd (cc)

abbrev pub Finishes : Fed → Fed → Type 0
Finishes old new = (text : List ℕ) (taken : List Line) (finished : Bool) → Follows text taken finished old → Follows text taken true new

pub finished_reads : (reader later : Fed) → Finishes reader later → Reads reader → Reads later
finished_reads reader later finishes reads =
    record { text = reads.text; taken = reads.taken; finished = true; follows = finishes reads.text reads.taken reads.finished reads.follows }

pub finished_plays : (config : Config) (noise : List ℕ) (is_over : Bool) (text : List ℕ) (reader ended next : Fed) (old new : Play) (answer bad : Option Stop) → is_over ≡ false
    → Finishes reader ended → PlaysReady ended next old new (Ok answer) → answer ≡ bad
    → GoesOn config noise is_over (lines_in (not is_over) text) text false old reader
    → Plays config noise is_over (lines_in (not is_over) text) text true (Ok bad) new next
finished_plays config noise true text reader ended next old new answer bad over finishes plays is g = absurd (cc)
finished_plays config noise false text reader ended next old new answer bad over finishes plays is g =
    subst (λ (o : Option Stop). Plays config noise false (lines_in true text) text true (Ok o) new next) is
    (plays config noise text g.taken true false (lines_in true text) (same_front (lines_in true text)) (finishes text g.taken false g.follows) g.goes)

pub open_ends : (config : Config) (noise : List ℕ) (is_over : Bool) (text : List ℕ) (reader : Fed) (play : Play) (number : ℕ) → is_over ≡ false
    → number ≡ next_number (left reader) → is_some play.draft ≡ true → GoesOn config noise is_over (lines_in (not is_over) text) text true play reader
    → Ends config noise is_over (lines_in (not is_over) text) play (Some (stop_of number Unfinished))
open_ends config noise true text reader play number is numbered opened g = absurd (cc)
open_ends config noise false text reader play number is numbered opened g =
    ends_by config noise false (lines_in true text) g.taken play (Some (stop_of number Unfinished)) g.all.all g.goes
    (open_refusal (lines_in true text) g.goes.scene number g.all.behind_all (numbered ∙ number_is text g.taken true reader g.follows g.all.all)
    (draft_same play g.goes.scene true g.goes.plays opened))

pub whole_ends : (config : Config) (noise : List ℕ) (is_over : Bool) (text : List ℕ) (reader : Fed) (play : Play) → is_over ≡ false → is_some play.draft ≡ false
    → GoesOn config noise is_over (lines_in (not is_over) text) text true play reader → Ends config noise is_over (lines_in (not is_over) text) play None
whole_ends config noise true text reader play is closed g = absurd (cc)
whole_ends config noise false text reader play is closed g =
    ends_by config noise false (lines_in true text) g.taken play None g.all.all g.goes
    (no_refusal (lines_in true text) g.goes.scene g.all.behind_all (draft_same play g.goes.scene false g.goes.plays closed))
