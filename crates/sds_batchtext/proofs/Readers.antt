-- A reader of a document between two calls.
use Rattle.std.specs.Prelude.{is_some}
use Rattle.std.proofs.Common.{◌≡◌, ℕ, Bool, true, false, List, [], ◌∷◌, ◌++◌, Option, None, Some, Result, Ok, Err, OnOk, refl, sym, ap, subst, ◌∙◌}
use Rattle.std.proofs.Math.Logic.{∥∥₁_map}
use Rattle.sds_line.proofs.Onward.{lines_go_on, lines_go_on_at_end, refused_lines_stay, refused_lines_stay_at_end}
use Rattle.sds_line.specs.declared.line.Line.{Line}
use Rattle.sds_line.specs.declared.refusal.LineRefusal.{LineRefusal}
use Rattle.sds_line.specs.Splitting.{Split, Fed, Follows, is_finished, left, lines_in, next_number}
use Rattle.sds_types.specs.declared.document.BatchDoc.{BatchDoc}
use Rattle.sds_types.specs.declared.document.DocumentCause.{DocumentCause}
use Rattle.sds_types.specs.declared.document.End.{End}
use Rattle.sds_types.specs.declared.document.End.TheVariants.{Broken}
use Rattle.sds_batchtext.specs.declared.doc_line.DocLine.{DocLine}
use Rattle.sds_batchtext.specs.declared.position.Position.{Position}
use Rattle.sds_batchtext.specs.Documents.{batches_of, said_in, broken_in, bad_line, first_end, end_or, end_of, end_in, last_end, is_unfinished}
use Rattle.sds_batchtext.specs.Judging.{judged, if_judged, lines_said, broken_line}
use Rattle.sds_batchtext.specs.Positions.{IsPositionAfter}
use Rattle.sds_batchtext.specs.Reading.{ReaderState, HasRead, IsFed, CanRead, IsReading, HasReadLines}
use Rattle.sds_batchtext.proofs.Readings.{split_lines, number_is}

-- MORE LINES after lines that may all stand
abbrev said_by : List DocLine → List Line → Result DocLine DocumentCause → List DocLine
said_by older lines j = if_judged j (λ cause. older) (λ said. lines_said (said ∷ older) lines)

abbrev broken_by : List DocLine → ℕ → List Line → Result DocLine DocumentCause → Option End
broken_by older number lines j = if_judged j (λ cause. Some (Broken number cause)) (λ said. broken_line (said ∷ older) lines)

pub lines_further : (older : List DocLine) (front rest : List Line) → broken_line older front ≡ None
    → (lines_said older (front ++ rest) ≡ lines_said (lines_said older front) rest) × (broken_line older (front ++ rest) ≡ broken_line (lines_said older front) rest)
lines_further older [] rest none = (refl, refl)
lines_further older (line ∷ front) rest none = by (judged older line.number line.fields) refl (λ said more. lines_further (said ∷ older) front rest more)
  where
    by : (j : Result DocLine DocumentCause) → judged older line.number line.fields ≡ j
        → ((said : DocLine) → broken_line (said ∷ older) front ≡ None → (lines_said (said ∷ older) (front ++ rest) ≡ lines_said (lines_said (said ∷ older) front) rest)
        × (broken_line (said ∷ older) (front ++ rest) ≡ broken_line (lines_said (said ∷ older) front) rest))
        → (lines_said older (line ∷ front ++ rest) ≡ lines_said (lines_said older (line ∷ front)) rest) × (broken_line older (line ∷ front ++ rest) ≡ broken_line (lines_said older (line ∷ front)) rest)
    by (Err cause) is later = let some : Some (Broken line.number cause) ≡ None = sym (ap (broken_by older line.number front) is) ∙ none in absurd (cc)
    by (Ok said) is later =
        let front_said : lines_said older (line ∷ front) ≡ lines_said (said ∷ older) front = ap (said_by older front) is in
        let front_none : broken_line (said ∷ older) front ≡ None = sym (ap (broken_by older line.number front) is) ∙ none in
        let two = later said front_none in (
          ap (said_by older (front ++ rest)) is ∙ (two.0 ∙ ap (λ (l : List DocLine). lines_said l rest) (sym front_said)),
          ap (broken_by older line.number (front ++ rest)) is ∙ (two.1 ∙ ap (λ (l : List DocLine). broken_line l rest) (sym front_said)),
        )

-- nothing follows a line that may not stand
pub lines_stay : (older : List DocLine) (front rest : List Line) (ending : End) → broken_line older front ≡ Some ending
    → (lines_said older (front ++ rest) ≡ lines_said older front) × (broken_line older (front ++ rest) ≡ Some ending)
lines_stay older [] rest ending some = absurd (cc)
lines_stay older (line ∷ front) rest ending some = by (judged older line.number line.fields) refl (λ said more. lines_stay (said ∷ older) front rest ending more)
  where
    by : (j : Result DocLine DocumentCause) → judged older line.number line.fields ≡ j
        → ((said : DocLine) → broken_line (said ∷ older) front ≡ Some ending → (lines_said (said ∷ older) (front ++ rest) ≡ lines_said (said ∷ older) front)
        × (broken_line (said ∷ older) (front ++ rest) ≡ Some ending))
        → (lines_said older (line ∷ front ++ rest) ≡ lines_said older (line ∷ front)) × (broken_line older (line ∷ front ++ rest) ≡ Some ending)
    by (Err cause) is later = (
      ap (said_by older (front ++ rest)) is ∙ sym (ap (said_by older front) is),
      ap (broken_by older line.number (front ++ rest)) is ∙ (sym (ap (broken_by older line.number front) is) ∙ some),
    )
    by (Ok said) is later =
        let two = later said (sym (ap (broken_by older line.number front) is) ∙ some) in (
          ap (said_by older (front ++ rest)) is ∙ (two.0 ∙ sym (ap (said_by older front) is)),
          ap (broken_by older line.number (front ++ rest)) is ∙ two.1,
        )

-- A TEXT THAT GOES ON, or ends, after one that is broken
stays : (finished : Bool) (text later : List ℕ) (rest : List Line) (ending : End) → (lines_in finished later).lines ≡ (lines_in false text).lines ++ rest
    → ((refusal : LineRefusal) → (lines_in false text).stop ≡ Some refusal → lines_in finished later ≡ lines_in false text) → broken_in false text ≡ Some ending
    → (said_in finished later ≡ said_in false text) × (broken_in finished later ≡ Some ending)
stays finished text later rest ending lines same broken = by (broken_line [] (lines_in false text).lines) refl
  where
    by_stop : broken_line [] (lines_in false text).lines ≡ None → (o : Option LineRefusal) → (lines_in false text).stop ≡ o → (said_in finished later ≡ said_in false text) × (broken_in finished later ≡ Some ending)
    by_stop is None goes =
        let none : None ≡ Some ending = sym (ap (λ (o : Option End). first_end o (bad_line (lines_in false text).stop (lines_in false text).last.number)) is
        ∙ ap (λ (o : Option LineRefusal). bad_line o (lines_in false text).last.number) goes) ∙ broken in
        absurd (cc)
    by_stop is (Some refusal) stops =
        let one : lines_in finished later ≡ lines_in false text = same refusal stops in (
          ap (λ (s : Split). lines_said [] s.lines) one,
          ap (λ (s : Split). first_end (broken_line [] s.lines) (bad_line s.stop s.last.number)) one ∙ broken,
        )

    by : (o : Option End) → broken_line [] (lines_in false text).lines ≡ o → (said_in finished later ≡ said_in false text) × (broken_in finished later ≡ Some ending)
    by None is = by_stop is (lines_in false text).stop refl
    by (Some first) is =
        let two = lines_stay [] (lines_in false text).lines rest first is in
        let all : Some first ≡ Some ending = sym (ap (λ (o : Option End). first_end o (bad_line (lines_in false text).stop (lines_in false text).last.number)) is) ∙ broken in (
          ap (lines_said []) lines ∙ two.0,
          ap (λ (o : Option End). first_end o (bad_line (lines_in finished later).stop (lines_in finished later).last.number)) (ap (broken_line []) lines ∙ two.1) ∙ all,
        )

no_first : (o second : Option End) → first_end o second ≡ None → o ≡ None
no_first None second none = refl
no_first (Some first) second none = absurd (cc)

-- THE CALLS
pub begin_reading : (text later : List ℕ) (taken : List BatchDoc) (finished : Bool) (v : ReaderState) (lines : Fed) → HasRead text taken false v → v.ending ≡ None
    → Follows later (lines_in false text).lines finished lines → IsReading later taken finished lines v.position v.ready
begin_reading text later taken finished v lines h going f =
    let none : broken_line [] (lines_in false text).lines ≡ None = no_first _ _ (sym h.ending ∙ going) in
    let two = lines_further [] (lines_in false text).lines (left lines).lines none in
    record {
      passed = (lines_in false text).lines;
      follows = f;
      older = said_in false text;
      stands = h.position;
      said = ap (lines_said []) (split_lines later (lines_in false text).lines finished lines f) ∙ two.0;
      broken = ap (broken_line []) (split_lines later (lines_in false text).lines finished lines f) ∙ two.1;
      batches = h.batches;
    }

-- a reader whose end isn't known has read a text that goes on
pub begin_ending : (text : List ℕ) (taken : List BatchDoc) (finished : Bool) (v : ReaderState) (lines : Fed) → HasRead text taken finished v → v.ending ≡ None
    → ((text : List ℕ) (taken : List Line) (finished : Bool) → Follows text taken finished v.lines → Follows text taken true lines) → IsReading text taken true lines v.position v.ready
begin_ending text taken true v lines h going ends = let some : None ≡ Some (end_of text) = sym going ∙ h.ending in absurd (cc)
begin_ending text taken false v lines h going ends = begin_reading text text taken true v lines h going (ends text (lines_in false text).lines false (h.follows going))

pub has_read : (text : List ℕ) (taken : List BatchDoc) (v : ReaderState) → HasReadLines text taken false v.ending v.lines v.position v.ready → v.is_spent ≡ false → HasRead text taken false v
has_read text taken v h whole = record { whole = whole; position = h.stands; batches = h.batches; ending = h.ends; follows = h.follows }

pub has_ended : (text : List ℕ) (taken : List BatchDoc) (v : ReaderState) (ending : End) → HasReadLines text taken true v.ending v.lines v.position v.ready → v.is_spent ≡ false → v.ending ≡ Some ending
    → (ending ≡ end_of text) × HasRead text taken true v
has_ended text taken v ending h whole ends =
    let is : ending ≡ end_of text =
    ap (λ (o : Option End). end_or o (last_end (is_unfinished (said_in true text)) (lines_in true text).last.number)) (sym ends ∙ h.ends) in (
      is,
      record { whole = whole; position = h.stands; batches = h.batches; ending = ends ∙ ap Some is; follows = λ none. let some : Some ending ≡ None = sym ends ∙ none in absurd (cc) },
    )

pub has_last : (text : List ℕ) (taken : List BatchDoc) (lines : Fed) (position : Position) (ready : List BatchDoc) (ending : End) (o : Option End) (spent : Bool) → HasReadLines text taken true o lines position ready
    → o ≡ None → spent ≡ false → ((older : List DocLine) → IsPositionAfter older position → ending ≡ last_end (is_unfinished older) (next_number (left lines)))
    → (ending ≡ end_of text) × HasRead text taken true (record { lines = lines; position = position; ready = ready; ending = Some ending; is_spent = spent })
has_last text taken lines position ready ending o spent h none whole last =
    let number : next_number (left lines) ≡ (lines_in true text).last.number = number_is text (lines_in true text).lines true lines (h.follows none) refl in
    let is : ending ≡ end_of text = last (said_in true text) h.stands
    ∙ (ap (λ (n : ℕ). last_end (is_unfinished (said_in true text)) n) number
    ∙ ap (λ (o : Option End). end_or o (last_end (is_unfinished (said_in true text)) (lines_in true text).last.number)) (sym none ∙ h.ends)) in (
      is,
      record { whole = whole; position = h.stands; batches = h.batches; ending = ap Some is; follows = λ none. absurd (cc) },
    )

kept : (text later : List ℕ) (taken : List BatchDoc) (finished : Bool) (v : ReaderState) (ending : End) → HasRead text taken false v → v.ending ≡ Some ending
    → (said_in finished later ≡ said_in false text) × (broken_in finished later ≡ Some ending) → end_in finished later ≡ Some ending → HasRead later taken finished v
kept text later taken finished v ending h ends two is = record {
  whole = h.whole;
  position = subst (λ (l : List DocLine). IsPositionAfter l v.position) (sym two.0) h.position;
  batches = h.batches ∙ ap batches_of (sym two.0);
  ending = ends ∙ sym is;
  follows = λ none. let some : Some ending ≡ None = sym ends ∙ none in absurd (cc);
}

-- later bytes are ignored
ignored : (text piece : List ℕ) (taken : List BatchDoc) (v : ReaderState) (ending : End) → v.ending ≡ Some ending → HasRead text taken false v → HasRead (text ++ piece) taken false v
ignored text piece taken v ending ends h =
    let on = lines_go_on false text piece in
    let two = stays false text (text ++ piece) on.0 ending on.1 (λ refusal stops. refused_lines_stay false text piece refusal stops) (sym h.ending ∙ ends) in
    kept text (text ++ piece) taken false v ending h ends two two.1

pub ignored_by : (text piece : List ℕ) (taken : List BatchDoc) (v : ReaderState) (o : Option End) → v.ending ≡ o → is_some o ≡ true → HasRead text taken false v → HasRead (text ++ piece) taken false v
ignored_by text piece taken v None ends some h = absurd (cc)
ignored_by text piece taken v (Some ending) ends some h = ignored text piece taken v ending ends h

-- and so is the end
pub ended_before : (text : List ℕ) (taken : List BatchDoc) (finished : Bool) (v : ReaderState) (ending : End) → v.ending ≡ Some ending → HasRead text taken finished v → (ending ≡ end_of text) × HasRead text taken true v
ended_before text taken true v ending ends h = let both : Some ending ≡ Some (end_of text) = sym ends ∙ h.ending in (cc, h)
ended_before text taken false v ending ends h =
    let on = lines_go_on_at_end text in
    let two = stays true text text on.0 ending on.1 (λ refusal stops. refused_lines_stay_at_end text refusal stops) (sym h.ending ∙ ends) in
    let is : ending ≡ end_of text = ap (λ (o : Option End). end_or o (last_end (is_unfinished (said_in true text)) (lines_in true text).last.number)) (sym two.1) in
    (is, kept text text taken true v ending h ends two (ap Some (sym is)))

-- a reader that reads on has lines
pub can_read : (spent : Bool) (o : Option End) (lines : Fed) → spent ≡ false → o ≡ None → ∥ CanRead spent o lines ∥₁ → ∥ IsFed lines ∥₁
can_read true o lines whole going can = absurd (cc)
can_read false (Some ending) lines whole going can = absurd (cc)
can_read false None lines whole going can = can

pub can_go_on : (spent : Bool) (o : Option End) (lines : Fed) → (o ≡ None → ∥ IsFed lines ∥₁) → ∥ CanRead spent o lines ∥₁
can_go_on true o lines fed = ∣ tt ∣₁
can_go_on false (Some ending) lines fed = ∣ tt ∣₁
can_go_on false None lines fed = fed refl

fed_piece : (old new : Fed) (piece : List ℕ) (text : List ℕ) (taken : List Line) (finished : Bool) → finished ≡ false → ((text : List ℕ) (taken : List Line) → Follows text taken false old → Follows (text ++ piece) taken false new)
    → Follows text taken finished old → IsFed new
fed_piece old new piece text taken true is takes f = absurd (cc)
fed_piece old new piece text taken false is takes f = record { text = text ++ piece; taken = taken; finished = false; follows = takes text taken f }

pub piece_fed : (old new : Fed) (piece : List ℕ) → is_finished old.phase ≡ false → ((text : List ℕ) (taken : List Line) → Follows text taken false old → Follows (text ++ piece) taken false new) → ∥ IsFed old ∥₁ → ∥ IsFed new ∥₁
piece_fed old new piece opened takes fed = ∥∥₁_map fed (λ (f : IsFed old). fed_piece old new piece f.text f.taken f.finished (sym f.follows.phase ∙ opened) takes f.follows)

pub end_fed : (old new : Fed) → ((text : List ℕ) (taken : List Line) (finished : Bool) → Follows text taken finished old → Follows text taken true new) → ∥ IsFed old ∥₁ → ∥ IsFed new ∥₁
end_fed old new takes fed = ∥∥₁_map fed (λ (f : IsFed old). record { text = f.text; taken = f.taken; finished = true; follows = takes f.text f.taken f.finished f.follows })

-- what two clauses on success give together
pub both_ok : {A E : Type 0} (r : Result A E) (P Q R : Type 0) → OnOk r P → OnOk r Q → (P → Q → R) → OnOk r R
both_ok (Ok x) P Q R p q give = give p q
both_ok (Err e) P Q R p q give = tt

pub no_ending : (o : Option End) → is_some o ≡ false → o ≡ None
no_ending None is = refl
no_ending (Some ending) is = absurd (cc)
