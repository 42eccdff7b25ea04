-- What a rehearsal is answered and writes, by what was read and played.
use Rattle.std.proofs.Common.{◌≡◌, ◌≢◌, ◌⊎◌, inl, inr, ℕ, ◌+◌, ◌-◌, ◌==◌, ◌<◌, ◌≤◌, ◌^◌, Bool, true, not, List, [], ◌++◌, length, take, Option, None, Some, Result, Err, refl, sym, ap, subst, ◌∙◌, arith, append-nil, length-append}
use Rattle.std.specs.Prelude.{IfSome, nat_lt, option_map}
use Rattle.std.specs.List.{suffix_len}
use Rattle.std.proofs.lemmas.Bool.Decides.{nat_tests}
use Rattle.std.proofs.lemmas.List.{take-append-le}
use Rattle.sds_line.specs.Splitting.{lines_in}
use Rattle.sds_outside.specs.Told.{before_told, after_told}
use Rattle.sds_outside.specs.declared.mem_keeper.MemKeeper.{MemKeeper}
use Rattle.sds_types.specs.Limits.{most_input_bytes}
use Rattle.sds_types.specs.ScenarioCauses.{number_of}
use Rattle.sds_types.specs.declared.config.Config.{Config}
use Rattle.sds_types.specs.declared.scenario.ScenarioCause.{ScenarioCause}
use Rattle.sds_types.specs.declared.scenario.ScenarioCause.TheVariants.{BadForm, UnknownName, Twice, Unfinished, TooLong, NotSupported}
use Rattle.sds_types.specs.declared.scenario.WorldRefusal.{WorldRefusal}
use Rattle.sds_types.specs.declared.scenario.WorldRefusal.TheVariants as refusal
use Rattle.sds_trade.specs.rules.Sound.{IsSound}
use Rattle.sds_history.specs.world.InStep.{InStep}
use Rattle.sds_history.specs.world.Worlds.{World}
use Rattle.sds_screen.specs.Scenes.{first_scene}
use Rattle.sds_screen.specs.Screen.{BadLine, is_past_most, through_last_feed, looked_at, scenario_refusal, scenario_screen}
use Rattle.sds_screen.specs.WorldAt.{scene_after, world_at}
use Rattle.sds_stage.specs.Keeping.{AllKeep}
use Rattle.sds_stage.specs.Playing as stage
use Rattle.sds_world.specs.Reading.{Ends, IsRehearsed, bad_line, ended}
use Rattle.sds_world.specs.Told.{Keeps, Shows, cause_by, ending, last_world}
use Rattle.sds_world.specs.declared.play.Play.{Play}
use Rattle.sds_world.specs.declared.rehearsing.Rehearsed.{Rehearsed}
use Rattle.sds_world.specs.declared.text.Stop.{Stop}
use Rattle.sds_world.proofs.Reached.{scenarios_stay_in_step}

-- READING
long_by : (n : ℕ) → 2 ^ 30 < n → nat_lt most_input_bytes n ≡ true
long_by n lt = grind (arith, nat_tests)

cut_by : (front bytes text rest : List ℕ) → front ≡ through_last_feed (take most_input_bytes bytes) → text ≡ bytes ++ rest → 2 ^ 30 < length bytes
    → (front ≡ looked_at text) × (true ≡ is_past_most text)
cut_by front bytes text rest is whole over =
    let sum : length (bytes ++ rest) ≡ length bytes + length rest = length-append bytes rest in
    let long : is_past_most text ≡ true = ap is_past_most whole ∙ long_by (length (bytes ++ rest)) (omega (arith, over, sum)) in
    let same : take most_input_bytes bytes ≡ take most_input_bytes text =
    sym (take-append-le most_input_bytes bytes rest (omega (arith, over))) ∙ ap (λ (l : List ℕ). take most_input_bytes l) (sym whole) in (
      is ∙ (ap through_last_feed same ∙ sym (looked_long text long)),
      sym long,
    ) where
      looked_long : (text : List ℕ) → is_past_most text ≡ true → looked_at text ≡ through_last_feed (take most_input_bytes text)
      looked_long text long = rw long refl

-- of a source that has more than 1 GiB
pub long_read : (front bytes : List ℕ) (old new : Option (List ℕ)) → front ≡ through_last_feed (take most_input_bytes bytes) → old ≡ before_told bytes new
    → 2 ^ 30 < length bytes → IfSome old (λ (text : List ℕ). (front ≡ looked_at text) × (true ≡ is_past_most text))
long_read front bytes None None is told over = tt
long_read front bytes None (Some rest) is told over = tt
long_read front bytes (Some text) None is told over = absurd (cc)
long_read front bytes (Some text) (Some rest) is told over = let whole : text ≡ bytes ++ rest = cc in cut_by front bytes text rest is whole over

-- the bytes up to the last line feed
abbrev pub behind_feed : List ℕ → ℕ
behind_feed bytes = suffix_len (λ b. not (b == 10)) bytes

pub cut_items : (bytes inner cut seen out : List ℕ) (len behind : ℕ) → inner ≡ bytes → cut ≡ take most_input_bytes inner → len ≡ length cut → seen ≡ cut
    → behind ≡ behind_feed seen → out ≡ take (len - behind) cut → out ≡ through_last_feed (take most_input_bytes bytes)
cut_items bytes inner cut seen out len behind inner_is cut_is len_is seen_is behind_is out_is =
    let same : cut ≡ take most_input_bytes bytes = cut_is ∙ ap (λ (l : List ℕ). take most_input_bytes l) inner_is in
    out_is ∙ (ap (λ n. take (n - behind) cut) len_is
    ∙ (ap (λ n. take (length cut - n) cut) (behind_is ∙ ap behind_feed seen_is) ∙ ap through_last_feed same))

-- NOTHING WRITTEN
unchanged : (told : Option (List ℕ)) → told ≡ after_told told []
unchanged None = refl
unchanged (Some front) = ap (λ (l : List ℕ). Some l) (sym (append-nil front))

none_taken : (told : Option (List ℕ)) (text : List ℕ) → told ≡ after_told told (take 0 text)
none_taken told text = unchanged told

pub unshown : (config : Config) (noise : List ℕ) (o told : Option (List ℕ)) (result : Result (Unit {0}) WorldRefusal)
    → (result ≡ Err refusal.ReadFault) ⊎ (result ≡ Err refusal.NoMemory) → IfSome o (λ (text : List ℕ). Shows config noise text result told told)
unshown config noise None told result is = tt
unshown config noise (Some text) told result (inl is) =
    record { ends = λ read write memory. absurd (read is); part = (0, (omega arith, none_taken told (scenario_screen config noise text))) }
unshown config noise (Some text) told result (inr is) =
    record { ends = λ read write memory. absurd (memory is); part = (0, (omega arith, none_taken told (scenario_screen config noise text))) }

pub unkept : (config : Config) (noise : List ℕ) (o : Option (List ℕ)) (result : Result (Unit {0}) WorldRefusal) (keepers : List MemKeeper)
    → (result ≡ Err refusal.ReadFault) ⊎ (result ≡ Err refusal.NoMemory) → IfSome o (λ (text : List ℕ). Keeps config noise text result keepers)
unkept config noise None result keepers is = tt
unkept config noise (Some text) result keepers (inl is) = λ read memory. absurd (read is)
unkept config noise (Some text) result keepers (inr is) = λ read memory. absurd (memory is)

-- THE ENDING
cause_back : (cause : ScenarioCause) → cause_by (number_of cause) ≡ cause
cause_back BadForm = refl
cause_back UnknownName = refl
cause_back Twice = refl
cause_back Unfinished = refl
cause_back TooLong = refl
cause_back NotSupported = refl

ended_is : (bad : Option Stop) → ended bad ≡ ending (option_map bad_line bad)
ended_is None = refl
ended_is (Some stop) = ap (λ (cause : ScenarioCause). Err (refusal.BadLine stop.line cause)) (sym (cause_back stop.cause))

-- A TEXT that was played is closed
pub closed : (config : Config) (noise text : List ℕ) (is_over : Bool) (play : Play) (bad : Option Stop) (rehearsed : Rehearsed) (answer : List MemKeeper)
    → Ends config noise is_over (lines_in (not is_over) text) play bad
    → ((world : World) → stage.PlaysWorld play.rehearsal.stage world → AllKeep play.rehearsal.stage.config answer world.nodes)
    → rehearsed.screen.items ≡ play.screen.items → rehearsed.bad ≡ bad → rehearsed.keepers.items ≡ answer
    → IsRehearsed config noise is_over (lines_in (not is_over) text) rehearsed
closed config noise text is_over play bad rehearsed answer ends keep screen bads keepers = record {
  shown = screen ∙ ends.shown;
  refused = ap (λ (o : Option Stop). option_map bad_line o) bads ∙ ends.refused;
  kept = subst (λ (l : List MemKeeper). AllKeep config l (scene_after config noise first_scene (lines_in (not is_over) text).lines).world.nodes) (sym keepers)
      (subst (λ (c : Config). AllKeep c answer (scene_after config noise first_scene (lines_in (not is_over) text).lines).world.nodes) ends.config_is
      (keep (scene_after config noise first_scene (lines_in (not is_over) text).lines).world ends.plays.world.stage));
}

-- WHAT WAS READ is the text
abbrev Looked : List ℕ → List ℕ → Bool → Type 0
Looked text front is_over = (front ≡ looked_at text) × (is_over ≡ is_past_most text)

abbrev OfText : Config → List ℕ → List ℕ → Rehearsed → Type 0
OfText config noise text rehearsed = (option_map bad_line rehearsed.bad ≡ scenario_refusal config noise text)
    × (rehearsed.screen.items ≡ scenario_screen config noise text) × AllKeep config rehearsed.keepers.items (last_world config noise text).nodes

of_text : (config : Config) (noise text front : List ℕ) (is_over : Bool) (rehearsed : Rehearsed) → Looked text front is_over
    → IsRehearsed config noise is_over (lines_in (not is_over) front) rehearsed → OfText config noise text rehearsed
of_text config noise text front is_over rehearsed is played =
    let same : IsRehearsed config noise (is_past_most text) (lines_in (not (is_past_most text)) (looked_at text)) rehearsed =
    subst (λ (l : List ℕ). IsRehearsed config noise (is_past_most text) (lines_in (not (is_past_most text)) l) rehearsed) is.0
    (subst (λ (b : Bool). IsRehearsed config noise b (lines_in (not b) front) rehearsed) is.1 played) in
    (same.refused, same.shown, same.kept)

abbrev PartOf : List ℕ → Option (List ℕ) → Option (List ℕ) → Type 0
PartOf written old new = (n : ℕ) × ((n ≤ length written) × (new ≡ after_told old (take n written)))

shows_by : (config : Config) (noise text : List ℕ) (rehearsed : Rehearsed) (result : Result (Unit {0}) WorldRefusal) (old new : Option (List ℕ)) → OfText config noise text rehearsed
    → (result ≢ Err refusal.WriteFault → (result ≡ ended rehearsed.bad) × (new ≡ after_told old rehearsed.screen.items)) → PartOf rehearsed.screen.items old new
    → Shows config noise text result old new
shows_by config noise text rehearsed result old new both ends part = record {
  ends = λ read write memory. (
    (ends write).0 ∙ (ended_is rehearsed.bad ∙ ap ending both.0),
    (ends write).1 ∙ ap (λ (l : List ℕ). after_told old l) both.1,
  );
  part = subst (λ (l : List ℕ). PartOf l old new) both.1 part;
}

abbrev pub EndsAs : Result (Unit {0}) WorldRefusal → Option Stop → List ℕ → Option (List ℕ) → Option (List ℕ) → Type 0
EndsAs result bad written old new = result ≢ Err refusal.WriteFault → (result ≡ ended bad) × (new ≡ after_told old written)

-- as it was played and written, from places that hold the same
pub shows_all : (config : Config) (noise : List ℕ) (o : Option (List ℕ)) (front seen : List ℕ) (is_over : Bool) (rehearsed : Rehearsed) (written : List ℕ)
    (result : Result (Unit {0}) WorldRefusal) (old new : Option (List ℕ)) → IfSome o (λ (text : List ℕ). (front ≡ looked_at text) × (is_over ≡ is_past_most text))
    → seen ≡ front → IsRehearsed config noise is_over (lines_in (not is_over) seen) rehearsed → written ≡ rehearsed.screen.items
    → (result ≢ Err refusal.WriteFault → (result ≡ ended rehearsed.bad) × (new ≡ after_told old written))
    → ((n : ℕ) × ((n ≤ length written) × (new ≡ after_told old (take n written))))
    → IfSome o (λ (text : List ℕ). Shows config noise text result old new)
shows_all config noise None front seen is_over rehearsed written result old new is same played shown ends part = tt
shows_all config noise (Some text) front seen is_over rehearsed written result old new is same played shown ends part =
    shows_by config noise text rehearsed result old new
    (of_text config noise text front is_over rehearsed is
    (subst (λ (l : List ℕ). IsRehearsed config noise is_over (lines_in (not is_over) l) rehearsed) same played))
    (subst (λ (l : List ℕ). EndsAs result rehearsed.bad l old new) shown ends) (subst (λ (l : List ℕ). PartOf l old new) shown part)

pub kept_all : (config : Config) (noise : List ℕ) (o : Option (List ℕ)) (front seen : List ℕ) (is_over : Bool) (rehearsed : Rehearsed) (result : Result (Unit {0}) WorldRefusal)
    → IfSome o (λ (text : List ℕ). (front ≡ looked_at text) × (is_over ≡ is_past_most text))
    → seen ≡ front → IsRehearsed config noise is_over (lines_in (not is_over) seen) rehearsed
    → IfSome o (λ (text : List ℕ). Keeps config noise text result rehearsed.keepers.items)
kept_all config noise None front seen is_over rehearsed result is same played = tt
kept_all config noise (Some text) front seen is_over rehearsed result is same played = λ read memory.
    (of_text config noise text front is_over rehearsed is
    (subst (λ (l : List ℕ). IsRehearsed config noise is_over (lines_in (not is_over) l) rehearsed) same played)).2

-- IN STEP, whatever text is told
pub always_told : (config : Config) → IsSound config → (noise : List ℕ) (o : Option (List ℕ)) → IfSome o (λ (text : List ℕ). (n : ℕ) → InStep config (world_at config noise text n))
always_told config sound noise None = tt
always_told config sound noise (Some text) = λ n. scenarios_stay_in_step config sound noise text n
