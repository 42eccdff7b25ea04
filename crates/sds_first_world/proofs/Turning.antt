-- The lines of a scenario, one after another, as its text comes.
use Rattle.std.proofs.Common.{◌≡◌, ◌≢◌, ℕ, ◌+◌, ◌<◌, ◌≤◌, ◌^◌, Bool, true, false, not, ◌&&◌, List, [], ◌∷◌, ◌++◌, length, map, Option, None, Some, Result, Ok, Err, refl, sym, ap, subst, ◌∙◌, arith, append-nil, append_assoc, length-append}
use Rattle.std.specs.Prelude.{is_some}
use Rattle.std.specs.Option.{option_map_or}
use Rattle.std.proofs.lemmas.List.{append_cancel_left}
use Rattle.sds_base.specs.declared.memory.NoMemory.{NoMemory}
use Rattle.sds_line.specs.declared.line.Line.{Line as TextLine}
use Rattle.sds_line.specs.declared.refusal.LineRefusal.{LineRefusal}
use Rattle.sds_line.specs.declared.refusal.LineRefusal.TheVariants as line_refusal
use Rattle.sds_line.specs.Splitting.{Split, Fed, Follows, Answers, IsEnd, is_finished, left, lines_in, next_number, number_or}
use Rattle.sds_first_spec.specs.declared.event.WorldEvent.{WorldEvent}
use Rattle.sds_first_spec.specs.One.{one}
use Rattle.sds_first_spec.specs.Screen.{printed_by, screen_of}
use Rattle.sds_first_spec.specs.World.{World, empty_world}
use Rattle.sds_first_world.specs.declared.game.Game.{Game}
use Rattle.sds_first_world.specs.declared.line.Line.{Line}
use Rattle.sds_first_world.specs.declared.place.Place.{Place}
use Rattle.sds_first_world.specs.declared.rehearsal.BadLine.{BadLine}
use Rattle.sds_first_world.specs.declared.stage.Stage.{Stage}
use Rattle.sds_first_world.specs.Games.{Reads, IsFront, Goes, Ends, GoesOn, Plays}
use Rattle.sds_first_world.specs.Looking.{completed, place_of}
use Rattle.sds_first_world.specs.Played.{said, world_by, world_of, may_stand, onto_events, events_from, end_refusal, refusal_from}
use Rattle.sds_first_world.specs.Shapes.{Behind, printed_line}
use Rattle.sds_first_world.proofs.Fronts.{more_front, same_front, end_front, few_enough}

pub none_left : (front xs : List TextLine) → front ++ xs ≡ front → xs ≡ []
none_left front xs is = append_cancel_left front xs [] (is ∙ sym (append-nil front))

screen_onto : (w : World) (o : Option WorldEvent) (events : List WorldEvent) → screen_of one w (onto_events o events) ≡ option_map_or (printed_by one w) o [] ++ screen_of one (world_by o w) events
screen_onto w None events = refl
screen_onto w (Some event) events = refl

events_on : (is_built : Bool) (older lines : List Line) (line : Line) → (is_built && may_stand older line) ≡ true
    → events_from is_built older (line ∷ lines) ≡ onto_events (completed (place_of older) line) (events_from is_built (line ∷ older) lines)
events_on is_built older lines line is = rw is refl

events_off : (is_built : Bool) (older lines : List Line) (line : Line) → (is_built && may_stand older line) ≡ false → events_from is_built older (line ∷ lines) ≡ []
events_off is_built older lines line is = rw is refl

refusal_on : (is_built is_over : Bool) (whole : Split) (older : List Line) (line : TextLine) (lines : List TextLine) → (is_built && may_stand older (said line)) ≡ true
    → refusal_from is_built is_over whole older (line ∷ lines) ≡ refusal_from is_built is_over whole (said line ∷ older) lines
refusal_on is_built is_over whole older line lines is = rw is refl

refusal_off : (is_built is_over : Bool) (whole : Split) (older : List Line) (line : TextLine) (lines : List TextLine) → (is_built && may_stand older (said line)) ≡ false
    → refusal_from is_built is_over whole older (line ∷ lines) ≡ Some (record { line = line.number; cause = 6 })
refusal_off is_built is_over whole older line lines is = rw is refl

-- what is left of the lines behind those that were taken begins with the next one
next_is : (whole : Split) (taken rest : List TextLine) (line : TextLine) (more : List TextLine) → whole.lines ≡ taken ++ rest → whole.lines ≡ (taken ++ line ∷ []) ++ more → rest ≡ line ∷ more
next_is whole taken rest line more lines next = append_cancel_left taken rest (line ∷ more) (sym lines ∙ (next ∙ append_assoc taken (line ∷ []) more))

-- A LINE THAT MAY STAND
abbrev Stands : Game → TextLine → Bool → Type 0
Stands old line holds = (older : List Line) → Behind older old.place old.stage → holds ≡ (old.is_built && may_stand older (said line))

abbrev Turns : Game → Game → TextLine → Type 0
Turns old new line = (older : List Line) → length older < 2 ^ 62 → Behind older old.place old.stage
    → Behind (said line ∷ older) new.place new.stage × (new.screen.items ≡ old.screen.items ++ printed_line older (said line))

abbrev Shown : Bool → Split → List ℕ → List Line → List TextLine → Type 0
Shown is_built whole screen older rest =
    screen ++ screen_of one (world_of older) (events_from is_built older (map said rest)) ≡ screen_of one empty_world (events_from is_built [] (map said whole.lines))

abbrev Refused : Bool → Bool → Split → List Line → List TextLine → Type 0
Refused is_built is_over whole older rest = refusal_from is_built is_over whole older rest ≡ refusal_from is_built is_over whole [] whole.lines

few_older : (whole : Split) (older : List Line) (taken rest : List TextLine) → whole.lines ≡ taken ++ rest → length older ≡ length taken → length whole.lines < 2 ^ 62 → length older < 2 ^ 62
few_older whole older taken rest lines count few =
    let sum : length (taken ++ rest) ≡ length taken + length rest = length-append taken rest in
    let same : length whole.lines ≡ length (taken ++ rest) = ap length lines in
    omega (arith, sum, same, count, few)

one_more : (older : List Line) (taken : List TextLine) (line : TextLine) (l : Line) → length older ≡ length taken → length (l ∷ older) ≡ length (taken ++ line ∷ [])
one_more older taken line l count = let sum : length (taken ++ line ∷ []) ≡ length taken + length (line ∷ []) = length-append taken (line ∷ []) in omega (arith, sum, count)

shown_on : (is_built : Bool) (whole : Split) (screen next : List ℕ) (older : List Line) (line : TextLine) (more : List TextLine) → (is_built && may_stand older (said line)) ≡ true
    → next ≡ screen ++ printed_line older (said line) → Shown is_built whole screen older (line ∷ more) → Shown is_built whole next (said line ∷ older) more
shown_on is_built whole screen next older line more may printed shown =
    let events : screen_of one (world_of older) (events_from is_built older (map said (line ∷ more)))
    ≡ printed_line older (said line) ++ screen_of one (world_of (said line ∷ older)) (events_from is_built (said line ∷ older) (map said more)) =
    ap (λ (l : List WorldEvent). screen_of one (world_of older) l) (events_on is_built older (map said more) (said line) may)
    ∙ screen_onto (world_of older) (completed (place_of older) (said line)) (events_from is_built (said line ∷ older) (map said more)) in
    ap (λ (l : List ℕ). l ++ screen_of one (world_of (said line ∷ older)) (events_from is_built (said line ∷ older) (map said more))) printed
    ∙ (append_assoc screen (printed_line older (said line)) (screen_of one (world_of (said line ∷ older)) (events_from is_built (said line ∷ older) (map said more)))
    ∙ (ap (λ (l : List ℕ). screen ++ l) (sym events) ∙ shown))

pub goes_on : (is_over : Bool) (whole : Split) (taken : List TextLine) (line : TextLine) (more : List TextLine) (old new : Game) (holds : Bool) → whole.lines ≡ (taken ++ line ∷ []) ++ more → length whole.lines < 2 ^ 62
    → Stands old line holds → holds ≡ true → Turns old new line → new.is_built ≡ old.is_built → Goes is_over whole taken old → Goes is_over whole (taken ++ line ∷ []) new
goes_on is_over whole taken line more old new holds next few stands is turns built g =
    let may : (old.is_built && may_stand g.older (said line)) ≡ true = sym (stands g.older g.behind) ∙ is in
    let rest : g.rest ≡ line ∷ more = next_is whole taken g.rest line more g.lines next in
    let both = turns g.older (few_older whole g.older taken g.rest g.lines g.count few) g.behind in
    record {
      rest = more;
      lines = next;
      older = said line ∷ g.older;
      count = one_more g.older taken line (said line) g.count;
      behind = both.0;
      shown = subst (λ (b : Bool). Shown b whole new.screen.items (said line ∷ g.older) more) (sym built)
          (shown_on old.is_built whole old.screen.items new.screen.items g.older line more may both.1 (subst (λ (l : List TextLine). Shown old.is_built whole old.screen.items g.older l) rest g.shown));
      refused = subst (λ (b : Bool). Refused b is_over whole (said line ∷ g.older) more) (sym built)
          (sym (refusal_on old.is_built is_over whole g.older line more may) ∙ subst (λ (l : List TextLine). Refused old.is_built is_over whole g.older l) rest g.refused);
    }

nothing_more : (screen : List ℕ) (w : World) (events : List WorldEvent) (all : List ℕ) → events ≡ [] → screen ++ screen_of one w events ≡ all → screen ≡ all
nothing_more screen w events all none shown = sym (append-nil screen) ∙ (ap (λ (l : List WorldEvent). screen ++ screen_of one w l) (sym none) ∙ shown)

-- A LINE THAT MAY NOT
pub ends_at : (is_over : Bool) (whole : Split) (taken : List TextLine) (line : TextLine) (more : List TextLine) (old new : Game) (holds : Bool) → whole.lines ≡ (taken ++ line ∷ []) ++ more
    → Stands old line holds → holds ≡ false → new.screen.items ≡ old.screen.items → new.is_built ≡ old.is_built → Goes is_over whole taken old
    → Ends is_over whole new (Some (record { line = line.number; cause = 6 }))
ends_at is_over whole taken line more old new holds next stands is stays built g =
    let may : (old.is_built && may_stand g.older (said line)) ≡ false = sym (stands g.older g.behind) ∙ is in
    let rest : g.rest ≡ line ∷ more = next_is whole taken g.rest line more g.lines next in
    record {
      shown = stays ∙ subst (λ (b : Bool). old.screen.items ≡ screen_of one empty_world (events_from b [] (map said whole.lines))) (sym built)
          (nothing_more old.screen.items (world_of g.older) (events_from old.is_built g.older (map said (line ∷ more))) _ (events_off old.is_built g.older (map said more) (said line) may)
          (subst (λ (l : List TextLine). Shown old.is_built whole old.screen.items g.older l) rest g.shown));
      refused = subst (λ (b : Bool). Some (record { line = line.number; cause = 6 }) ≡ refusal_from b is_over whole [] whole.lines) (sym built)
          (sym (refusal_off old.is_built is_over whole g.older line more may) ∙ subst (λ (l : List TextLine). Refused old.is_built is_over whole g.older l) rest g.refused);
    }

-- NO LINE IS LEFT
number_by : (number : ℕ) (lines : List TextLine) → lines ≡ [] → number_or number lines ≡ number
number_by number lines none = ap (number_or number) none

pub number_is : (text : List ℕ) (taken : List TextLine) (finished : Bool) (v : Fed) → Follows text taken finished v → (lines_in finished text).lines ≡ taken → next_number (left v) ≡ (lines_in finished text).last.number
number_is text taken finished v f all =
    let none : (left v).lines ≡ [] = none_left taken (left v).lines (ap (λ (s : Split). s.lines) f.reads ∙ all) in
    number_by (left v).last.number (left v).lines none ∙ ap (λ (s : Split). s.last.number) f.reads

pub ends_by : (is_over : Bool) (whole : Split) (taken : List TextLine) (game : Game) (bad : Option BadLine) → whole.lines ≡ taken → (g : Goes is_over whole taken game) → bad ≡ end_refusal is_over whole g.older → Ends is_over whole game bad
ends_by is_over whole taken game bad all g is =
    let none : g.rest ≡ [] = none_left taken g.rest (sym g.lines ∙ all) in
    record {
      shown = nothing_more game.screen.items (world_of g.older) (events_from game.is_built g.older (map said g.rest)) _ (ap (λ (l : List TextLine). events_from game.is_built g.older (map said l)) none) g.shown;
      refused = is ∙ (ap (λ (l : List TextLine). refusal_from game.is_built is_over whole g.older l) (sym none) ∙ g.refused);
    }

-- why: the line is of no line's form
pub stop_refusal : (is_over : Bool) (whole : Split) (older : List Line) (number : ℕ) → is_some whole.stop ≡ true → number ≡ whole.last.number → Some (record { line = number; cause = 1 }) ≡ end_refusal is_over whole older
stop_refusal is_over whole older number stops is = rw (is, stops) refl

-- or it holds the first byte too many
pub long_refusal : (whole : Split) (older : List Line) (number : ℕ) → whole.stop ≡ None → number ≡ whole.last.number → Some (record { line = number; cause = 5 }) ≡ end_refusal true whole older
long_refusal whole older number goes is = rw (is, goes) refl

-- or the scenario ends inside a write
pub open_refusal : (whole : Split) (older : List Line) (place : Place) (stage : Stage) (number : ℕ) → whole.stop ≡ None → number ≡ whole.last.number → Behind older place stage → is_some place.draft ≡ true
    → Some (record { line = number; cause = 4 }) ≡ end_refusal false whole older
open_refusal whole older place stage number goes is b opened =
    let draft : is_some (place_of older).draft ≡ true = ap (λ (p : Place). is_some p.draft) (sym b.is) ∙ opened in rw (is, goes, draft) refl

-- or there is none
pub no_refusal : (whole : Split) (older : List Line) (place : Place) (stage : Stage) → whole.stop ≡ None → Behind older place stage → is_some place.draft ≡ false → None ≡ end_refusal false whole older
no_refusal whole older place stage goes b closed =
    let draft : is_some (place_of older).draft ≡ false = ap (λ (p : Place). is_some p.draft) (sym b.is) ∙ closed in rw (goes, draft) refl

-- A READER AND A GAME between two lines
pub record Midway (is_over : Bool) (whole : Split) (text : List ℕ) (finished : Bool) (reader : Fed) (game : Game) : Type 0 where
  pub taken : List TextLine
  pub follows : Follows text taken finished reader
  pub goes : Goes is_over whole taken game

split_lines : (text : List ℕ) (taken : List TextLine) (finished : Bool) (v : Fed) → Follows text taken finished v → (lines_in finished text).lines ≡ taken ++ (left v).lines
split_lines text taken finished v f = ap (λ (s : Split). s.lines) (sym f.reads)

whole_lines : (whole : Split) (text : List ℕ) (taken : List TextLine) (finished : Bool) (v : Fed) → Follows text taken finished v → (front : IsFront (lines_in finished text) whole) → whole.lines ≡ taken ++ ((left v).lines ++ front.rest)
whole_lines whole text taken finished v f front =
    front.lines ∙ (ap (λ (l : List TextLine). l ++ front.rest) (split_lines text taken finished v f) ∙ append_assoc taken (left v).lines front.rest)

-- a line that is taken leaves fewer
pub fewer : (text : List ℕ) (taken : List TextLine) (line : TextLine) (finished : Bool) (old new : Fed) → Follows text taken finished old → Follows text (taken ++ line ∷ []) finished new → length (left new).lines < length (left old).lines
fewer text taken line finished old new f g =
    let same : taken ++ (left old).lines ≡ (taken ++ line ∷ []) ++ (left new).lines = sym (split_lines text taken finished old f) ∙ split_lines text (taken ++ line ∷ []) finished new g in
    let next : (left old).lines ≡ line ∷ (left new).lines = append_cancel_left taken (left old).lines (line ∷ (left new).lines) (same ∙ append_assoc taken (line ∷ []) (left new).lines) in
    let count : length (left old).lines ≡ length (line ∷ (left new).lines) = ap length next in
    omega (arith, count)

abbrev TakesLine : Fed → Fed → TextLine → Type 0
TakesLine old new line = (text : List ℕ) (taken : List TextLine) (finished : Bool) → Follows text taken finished old → Follows text (taken ++ line ∷ []) finished new

pub midway_on : (is_over : Bool) (whole : Split) (text : List ℕ) (finished : Bool) (reader later : Fed) (old new : Game) (line : TextLine) (holds : Bool) → TakesLine reader later line → IsFront (lines_in finished text) whole
    → length whole.lines < 2 ^ 62 → Stands old line holds → holds ≡ true → Turns old new line → new.is_built ≡ old.is_built → Midway is_over whole text finished reader old → Midway is_over whole text finished later new
midway_on is_over whole text finished reader later old new line holds takes front few stands is turns built mid =
    let f : Follows text (mid.taken ++ line ∷ []) finished later = takes text mid.taken finished mid.follows in
    record {
      taken = mid.taken ++ line ∷ [];
      follows = f;
      goes = goes_on is_over whole mid.taken line ((left later).lines ++ front.rest) old new holds (whole_lines whole text (mid.taken ++ line ∷ []) finished later f front) few stands is turns built mid.goes;
    }

pub midway_off : (is_over : Bool) (whole : Split) (text : List ℕ) (finished : Bool) (reader later : Fed) (old new : Game) (line : TextLine) (holds : Bool) → TakesLine reader later line → IsFront (lines_in finished text) whole
    → Stands old line holds → holds ≡ false → new.screen.items ≡ old.screen.items → new.is_built ≡ old.is_built → Midway is_over whole text finished reader old → Ends is_over whole new (Some (record { line = line.number; cause = 6 }))
midway_off is_over whole text finished reader later old new line holds takes front stands is stays built mid =
    let f : Follows text (mid.taken ++ line ∷ []) finished later = takes text mid.taken finished mid.follows in
    ends_at is_over whole mid.taken line ((left later).lines ++ front.rest) old new holds (whole_lines whole text (mid.taken ++ line ∷ []) finished later f front) stands is stays built mid.goes

-- why no line follows
pub refused_answer : (text : List ℕ) (taken : List TextLine) (finished : Bool) (refusal : LineRefusal) (new : Fed) → refusal ≢ line_refusal.NoMemory → Answers text taken finished (Err refusal) new
    → IsEnd text taken finished (Some refusal) × Follows text taken finished new
refused_answer text taken finished line_refusal.BareQuote new other answer = answer
refused_answer text taken finished line_refusal.OpenQuote new other answer = answer
refused_answer text taken finished line_refusal.BadEscape new other answer = answer
refused_answer text taken finished line_refusal.LineTooLong new other answer = answer
refused_answer text taken finished line_refusal.NotUtf8 new other answer = answer
refused_answer text taken finished line_refusal.NoMemory new other answer = absurd (other refl)

pub midway_refused : (is_over : Bool) (whole : Split) (text : List ℕ) (finished : Bool) (reader later : Fed) (game : Game) (refusal : LineRefusal) (number : ℕ)
    → ((text : List ℕ) (taken : List TextLine) (finished : Bool) → Follows text taken finished reader → IsEnd text taken finished (Some refusal) × Follows text taken finished later)
    → number ≡ next_number (left later) → IsFront (lines_in finished text) whole → Midway is_over whole text finished reader game → Ends is_over whole game (Some (record { line = number; cause = 1 }))
midway_refused is_over whole text finished reader later game refusal number ends is front mid =
    let both : IsEnd text mid.taken finished (Some refusal) × Follows text mid.taken finished later = ends text mid.taken finished mid.follows in
    let stops : is_some (lines_in finished text).stop ≡ true = ap (λ (o : Option LineRefusal). is_some o) both.0.behind_all in
    let same : whole ≡ lines_in finished text = front.refused stops in
    ends_by is_over whole mid.taken game (Some (record { line = number; cause = 1 })) (ap (λ (s : Split). s.lines) same ∙ both.0.all) mid.goes
    (stop_refusal is_over whole mid.goes.older number (ap (λ (s : Split). is_some s.stop) same ∙ stops)
    (is ∙ (number_is text mid.taken finished later both.1 both.0.all ∙ ap (λ (s : Split). s.last.number) (sym same))))

pub midway_none : (is_over : Bool) (whole : Split) (text : List ℕ) (finished : Bool) (reader later : Fed) (game : Game)
    → ((text : List ℕ) (taken : List TextLine) (finished : Bool) → Follows text taken finished reader → IsEnd text taken finished None × Follows text taken finished later)
    → Midway is_over whole text finished reader game → GoesOn is_over whole text finished game later
midway_none is_over whole text finished reader later game ends mid =
    let both : IsEnd text mid.taken finished None × Follows text mid.taken finished later = ends text mid.taken finished mid.follows in
    record { taken = mid.taken; follows = both.1; all = both.0; goes = mid.goes }

-- a reader that gave no line is still one
pub still_reads : (reader later : Fed) → ((text : List ℕ) (taken : List TextLine) (finished : Bool) → Follows text taken finished reader → IsEnd text taken finished None × Follows text taken finished later) → Reads reader → Reads later
still_reads reader later ends reads = record { text = reads.text; taken = reads.taken; finished = reads.finished; follows = (ends reads.text reads.taken reads.finished reads.follows).1 }

-- A PIECE MORE
abbrev TakesPiece : Fed → Fed → List ℕ → Type 0
TakesPiece old new piece = (text : List ℕ) (taken : List TextLine) → Follows text taken false old → Follows (text ++ piece) taken false new

fed_by : (reader later : Fed) (piece : List ℕ) (text : List ℕ) (taken : List TextLine) (finished : Bool) → finished ≡ false → TakesPiece reader later piece → Follows text taken finished reader → Reads later
fed_by reader later piece text taken true is takes f = absurd (cc)
fed_by reader later piece text taken false is takes f = record { text = text ++ piece; taken = taken; finished = false; follows = takes text taken f }

pub fed_reads : (reader later : Fed) (piece : List ℕ) → TakesPiece reader later piece → is_finished reader.phase ≡ false → Reads reader → Reads later
fed_reads reader later piece takes is reads = fed_by reader later piece reads.text reads.taken reads.finished (sym reads.follows.phase ∙ is) takes reads.follows

abbrev PlaysReady : Fed → Fed → Game → Game → Result (Option BadLine) NoMemory → Type 0
PlaysReady reader later old new result = (text : List ℕ) (taken : List TextLine) (finished is_over : Bool) (whole : Split) → IsFront (lines_in finished text) whole → length whole.lines < 2 ^ 62
    → Follows text taken finished reader → Goes is_over whole taken old → Plays is_over whole text finished result new later

pub piece_played : (is_over : Bool) (whole : Split) (text fed piece rest later : List ℕ) (reader given next : Fed) (old new : Game) (result : Result (Option BadLine) NoMemory) → fed ++ rest ≡ text → rest ≡ piece ++ later
    → TakesPiece reader given piece → PlaysReady given next old new result → IsFront (lines_in false text) whole → length whole.lines < 2 ^ 62
    → GoesOn is_over whole fed false old reader → Plays is_over whole (fed ++ piece) false result new next
piece_played is_over whole text fed piece rest later reader given next old new result is parts takes plays front few g =
    let all : text ≡ (fed ++ piece) ++ later = sym is ∙ (ap (λ (l : List ℕ). fed ++ l) parts ∙ sym (append_assoc fed piece later)) in
    plays (fed ++ piece) g.taken false is_over whole (more_front whole (fed ++ piece) later (subst (λ (l : List ℕ). IsFront (lines_in false l) whole) all front)) few (takes fed g.taken g.follows) g.goes

pub piece_fed : (text fed piece rest later : List ℕ) → fed ++ rest ≡ text → rest ≡ piece ++ later → (fed ++ piece) ++ later ≡ text
piece_fed text fed piece rest later is parts = append_assoc fed piece later ∙ (ap (λ (l : List ℕ). fed ++ l) (sym parts) ∙ is)

pub all_played : (is_over : Bool) (whole : Split) (text fed rest : List ℕ) (reader : Fed) (game : Game) → fed ++ rest ≡ text → rest ≡ [] → GoesOn is_over whole fed false game reader → GoesOn is_over whole text false game reader
all_played is_over whole text fed rest reader game is none g =
    subst (λ (l : List ℕ). GoesOn is_over whole l false game reader) (sym (append-nil fed) ∙ (ap (λ (l : List ℕ). fed ++ l) (sym none) ∙ is)) g

-- ALL PIECES, and the answer as it is matched
abbrev PlaysPieces : Fed → Game → Game → List ℕ → Result (Option BadLine) NoMemory → Type 0
PlaysPieces later old new text result = (is_over : Bool) (whole : Split) → IsFront (lines_in false text) whole → length whole.lines < 2 ^ 62 → Goes is_over whole [] old → Plays is_over whole text false result new later

pub pieces_played : (is_over : Bool) (text : List ℕ) (later : Fed) (old new : Game) (answer bad : Option BadLine) → length text ≤ 2 ^ 30 → PlaysPieces later old new text (Ok answer) → answer ≡ bad
    → Goes is_over (lines_in (not is_over) text) [] old → Plays is_over (lines_in (not is_over) text) text false (Ok bad) new later
pieces_played is_over text later old new answer bad few plays is g =
    subst (λ (o : Option BadLine). Plays is_over (lines_in (not is_over) text) text false (Ok o) new later) is
    (plays is_over (lines_in (not is_over) text) (end_front (not is_over) text) (few_enough (not is_over) text few) g)

-- THE END of a text
pub long_ends : (is_over : Bool) (text : List ℕ) (reader : Fed) (game : Game) (number : ℕ) → is_over ≡ true → number ≡ next_number (left reader) → GoesOn is_over (lines_in (not is_over) text) text false game reader
    → Ends is_over (lines_in (not is_over) text) game (Some (record { line = number; cause = 5 }))
long_ends true text reader game number is numbered g =
    ends_by true (lines_in false text) g.taken game (Some (record { line = number; cause = 5 })) g.all.all g.goes
    (long_refusal (lines_in false text) g.goes.older number g.all.behind_all (numbered ∙ number_is text g.taken false reader g.follows g.all.all))
long_ends false text reader game number is numbered g = absurd (cc)

abbrev Finishes : Fed → Fed → Type 0
Finishes old new = (text : List ℕ) (taken : List TextLine) (finished : Bool) → Follows text taken finished old → Follows text taken true new

pub finished_reads : (reader later : Fed) → Finishes reader later → Reads reader → Reads later
finished_reads reader later finishes reads = record { text = reads.text; taken = reads.taken; finished = true; follows = finishes reads.text reads.taken reads.finished reads.follows }

pub finished_plays : (is_over : Bool) (text : List ℕ) (reader ended next : Fed) (old new : Game) (answer bad : Option BadLine) → length text ≤ 2 ^ 30 → is_over ≡ false → Finishes reader ended → PlaysReady ended next old new (Ok answer) → answer ≡ bad
    → GoesOn is_over (lines_in (not is_over) text) text false old reader → Plays is_over (lines_in (not is_over) text) text true (Ok bad) new next
finished_plays true text reader ended next old new answer bad few over finishes plays is g = absurd (cc)
finished_plays false text reader ended next old new answer bad few over finishes plays is g =
    subst (λ (o : Option BadLine). Plays false (lines_in true text) text true (Ok o) new next) is
    (plays text g.taken true false (lines_in true text) (same_front (lines_in true text)) (few_enough true text few) (finishes text g.taken false g.follows) g.goes)

pub open_ends : (is_over : Bool) (text : List ℕ) (reader : Fed) (game : Game) (number : ℕ) → is_over ≡ false → number ≡ next_number (left reader) → is_some game.place.draft ≡ true
    → GoesOn is_over (lines_in (not is_over) text) text true game reader → Ends is_over (lines_in (not is_over) text) game (Some (record { line = number; cause = 4 }))
open_ends true text reader game number is numbered opened g = absurd (cc)
open_ends false text reader game number is numbered opened g =
    ends_by false (lines_in true text) g.taken game (Some (record { line = number; cause = 4 })) g.all.all g.goes
    (open_refusal (lines_in true text) g.goes.older game.place game.stage number g.all.behind_all (numbered ∙ number_is text g.taken true reader g.follows g.all.all) g.goes.behind opened)

pub whole_ends : (is_over : Bool) (text : List ℕ) (reader : Fed) (game : Game) → is_over ≡ false → is_some game.place.draft ≡ false → GoesOn is_over (lines_in (not is_over) text) text true game reader
    → Ends is_over (lines_in (not is_over) text) game None
whole_ends true text reader game is closed g = absurd (cc)
whole_ends false text reader game is closed g =
    ends_by false (lines_in true text) g.taken game None g.all.all g.goes (no_refusal (lines_in true text) g.goes.older game.place game.stage g.all.behind_all g.goes.behind closed)
