-- The lines of a document, one after another, as its text comes.
use Rattle.std.proofs.Common.{◌≡◌, ◌≢◌, ℕ, ◌<◌, Bool, List, [], ◌∷◌, ◌++◌, length, Option, None, Some, Result, Ok, Err, refl, sym, ap, subst, ◌∙◌, arith, append-nil, append_assoc}
use Rattle.std.proofs.lemmas.List.{append_cancel_left}
use Rattle.std.proofs.Math.Bridge.{le_prop}
use Rattle.std.proofs.Math.Logic.{∥∥₁_elim, ∥∥₁_map}
use Rattle.sds_line.specs.declared.line.Line.{Line}
use Rattle.sds_line.specs.declared.refusal.LineRefusal.{LineRefusal}
use Rattle.sds_line.specs.declared.refusal.LineRefusal.TheVariants as line_refusal
use Rattle.sds_line.specs.Splitting.{Split, Fed, Follows, Answers, IsEnd, left, lines_in, next_number, number_or}
use Rattle.sds_types.specs.declared.document.BatchDoc.{BatchDoc}
use Rattle.sds_types.specs.declared.document.DocumentCause.{DocumentCause}
use Rattle.sds_types.specs.declared.document.DocumentCause.TheVariants.{BadLine}
use Rattle.sds_types.specs.declared.document.End.{End}
use Rattle.sds_types.specs.declared.document.End.TheVariants.{Broken}
use Rattle.sds_batchtext.specs.declared.doc_line.DocLine.{DocLine}
use Rattle.sds_batchtext.specs.declared.position.Position.{Position}
use Rattle.sds_batchtext.specs.Documents.{and_one, batch_said, batches_of, said_in, bad_line, first_end}
use Rattle.sds_batchtext.specs.Judging.{judged, if_judged, lines_said, broken_line}
use Rattle.sds_batchtext.specs.Positions.{IsPositionAfter, HasTaken}
use Rattle.sds_batchtext.specs.Reading.{IsFed, IsReading, HasReadLines}

-- A READER OF LINES between two lines
pub none_left : (front xs : List Line) → front ++ xs ≡ front → xs ≡ []
none_left front xs is = append_cancel_left front xs [] (is ∙ sym (append-nil front))

pub split_lines : (text : List ℕ) (taken : List Line) (finished : Bool) (v : Fed) → Follows text taken finished v → (lines_in finished text).lines ≡ taken ++ (left v).lines
split_lines text taken finished v f = ap (λ (s : Split). s.lines) (sym f.reads)

abbrev pub TakesLine : Fed → Fed → Line → Type 0
TakesLine old new line = (text : List ℕ) (taken : List Line) (finished : Bool) → Follows text taken finished old → Follows text (taken ++ line ∷ []) finished new

-- the line that is taken is the first of those that were left
next_line : (text : List ℕ) (taken : List Line) (line : Line) (finished : Bool) (old new : Fed) → Follows text taken finished old → Follows text (taken ++ line ∷ []) finished new → (left old).lines ≡ line ∷ (left new).lines
next_line text taken line finished old new f g =
    let same : taken ++ (left old).lines ≡ (taken ++ line ∷ []) ++ (left new).lines = sym (split_lines text taken finished old f) ∙ split_lines text (taken ++ line ∷ []) finished new g in
    append_cancel_left taken (left old).lines (line ∷ (left new).lines) (same ∙ append_assoc taken (line ∷ []) (left new).lines)

fewer : (old new : Fed) (line : Line) → TakesLine old new line → IsFed old → length (left new).lines < length (left old).lines
fewer old new line takes f =
    let count : length (left old).lines ≡ length (line ∷ (left new).lines) = ap length (next_line f.text f.taken line f.finished old new f.follows (takes f.text f.taken f.finished f.follows)) in
    omega (arith, count)

pub fewer_left : (old new : Fed) (line : Line) → TakesLine old new line → ∥ IsFed old ∥₁ → length (left new).lines < length (left old).lines
fewer_left old new line takes fed = ∥∥₁_elim fed le_prop (fewer old new line takes)

pub fed_on : (old new : Fed) (line : Line) → TakesLine old new line → ∥ IsFed old ∥₁ → ∥ IsFed new ∥₁
fed_on old new line takes fed = ∥∥₁_map fed (λ (f : IsFed old). record { text = f.text; taken = f.taken ++ line ∷ []; finished = f.finished; follows = takes f.text f.taken f.finished f.follows })

abbrev pub TakesNone : Fed → Fed → Option LineRefusal → Type 0
TakesNone old new stop = (text : List ℕ) (taken : List Line) (finished : Bool) → Follows text taken finished old → IsEnd text taken finished stop × Follows text taken finished new

pub still_fed : (old new : Fed) → TakesNone old new None → ∥ IsFed old ∥₁ → ∥ IsFed new ∥₁
still_fed old new takes fed = ∥∥₁_map fed (λ (f : IsFed old). record { text = f.text; taken = f.taken; finished = f.finished; follows = (takes f.text f.taken f.finished f.follows).1 })

-- A LINE THAT IS TAKEN
and_one_after : (taken ready : List BatchDoc) (o : Option BatchDoc) → taken ++ and_one ready o ≡ and_one (taken ++ ready) o
and_one_after taken ready None = refl
and_one_after taken ready (Some batch) = sym (append_assoc taken ready (batch ∷ []))

abbrev pub Judges : Line → Position → Position → List BatchDoc → List BatchDoc → Option DocumentCause → Type 0
Judges line old new before after refused = (older : List DocLine) → IsPositionAfter older old → HasTaken older (judged older line.number line.fields) refused new before after

pub read_on : (text : List ℕ) (taken : List BatchDoc) (finished : Bool) (old new : Fed) (line : Line) (position later : Position) (before after : List BatchDoc) (refused : Option DocumentCause)
    → TakesLine old new line → Judges line position later before after refused → refused ≡ None → IsReading text taken finished old position before → IsReading text taken finished new later after
read_on text taken finished old new line position later before after refused takes judges goes r =
    by (judged r.older line.number line.fields) refl (judges r.older r.stands)
  where
    rest : (left old).lines ≡ line ∷ (left new).lines
    rest = next_line text r.passed line finished old new r.follows (takes text r.passed finished r.follows)

    by : (j : Result DocLine DocumentCause) → judged r.older line.number line.fields ≡ j → HasTaken r.older j refused later before after → IsReading text taken finished new later after
    by (Err cause) is t = let none : refused ≡ Some cause = t.0 in absurd (cc)
    by (Ok said) is t = record {
      passed = r.passed ++ line ∷ [];
      follows = takes text r.passed finished r.follows;
      older = said ∷ r.older;
      stands = t.1;
      said = r.said ∙ (ap (lines_said r.older) rest
          ∙ ap (λ (j : Result DocLine DocumentCause). if_judged j (λ cause. r.older) (λ said. lines_said (said ∷ r.older) (left new).lines)) is);
      broken = r.broken ∙ (ap (broken_line r.older) rest
          ∙ ap (λ (j : Result DocLine DocumentCause). if_judged j (λ cause. Some (Broken line.number cause)) (λ said. broken_line (said ∷ r.older) (left new).lines)) is);
      batches = ap (λ (l : List BatchDoc). taken ++ l) t.2 ∙ (and_one_after taken before (batch_said r.older said) ∙ ap (λ (l : List BatchDoc). and_one l (batch_said r.older said)) r.batches);
    }

-- a line of this number that may not stand for this cause
abbrev broken_at : ℕ → Option DocumentCause → Option End
broken_at number None = None
broken_at number (Some cause) = Some (Broken number cause)

pub read_stops : (text : List ℕ) (taken : List BatchDoc) (finished : Bool) (old new : Fed) (line : Line) (position later : Position) (before after : List BatchDoc) (refused : Option DocumentCause) (cause : DocumentCause)
    → TakesLine old new line → Judges line position later before after refused → refused ≡ Some cause → IsReading text taken finished old position before
    → HasReadLines text taken finished (Some (Broken line.number cause)) new later after
read_stops text taken finished old new line position later before after refused cause takes judges stops r =
    by (judged r.older line.number line.fields) refl (judges r.older r.stands)
  where
    rest : (left old).lines ≡ line ∷ (left new).lines
    rest = next_line text r.passed line finished old new r.follows (takes text r.passed finished r.follows)

    by : (j : Result DocLine DocumentCause) → judged r.older line.number line.fields ≡ j → HasTaken r.older j refused later before after → HasReadLines text taken finished (Some (Broken line.number cause)) new later after
    by (Ok said) is t = let none : refused ≡ None = t.0 in absurd (cc)
    by (Err why) is t =
        let all : said_in finished text ≡ r.older = r.said ∙ (ap (lines_said r.older) rest
        ∙ ap (λ (j : Result DocLine DocumentCause). if_judged j (λ cause. r.older) (λ said. lines_said (said ∷ r.older) (left new).lines)) is) in
        let first : broken_line [] (lines_in finished text).lines ≡ Some (Broken line.number why) = r.broken ∙ (ap (broken_line r.older) rest
        ∙ ap (λ (j : Result DocLine DocumentCause). if_judged j (λ cause. Some (Broken line.number cause)) (λ said. broken_line (said ∷ r.older) (left new).lines)) is) in
        let same : Some cause ≡ Some why = sym stops ∙ t.0 in
        record {
          stands = subst (λ (l : List DocLine). IsPositionAfter l later) (sym all) t.1;
          batches = ap (λ (l : List BatchDoc). taken ++ l) t.2 ∙ (r.batches ∙ ap batches_of (sym all));
          ends = ap (broken_at line.number) same ∙ sym (ap (λ (o : Option End). first_end o (bad_line (lines_in finished text).stop (lines_in finished text).last.number)) first);
          follows = λ none. absurd (cc);
        }

-- NO LINE IS LEFT
pub read_all : (text : List ℕ) (taken : List BatchDoc) (finished : Bool) (old new : Fed) (position : Position) (ready : List BatchDoc)
    → TakesNone old new None → IsReading text taken finished old position ready → HasReadLines text taken finished None new position ready
read_all text taken finished old new position ready takes r =
    let both : IsEnd text r.passed finished None × Follows text r.passed finished new = takes text r.passed finished r.follows in
    let none : (left old).lines ≡ [] = none_left r.passed (left old).lines (sym (split_lines text r.passed finished old r.follows) ∙ both.0.all) in
    let all : said_in finished text ≡ r.older = r.said ∙ ap (lines_said r.older) none in
    let first : broken_line [] (lines_in finished text).lines ≡ None = r.broken ∙ ap (broken_line r.older) none in
    record {
      stands = subst (λ (l : List DocLine). IsPositionAfter l position) (sym all) r.stands;
      batches = r.batches ∙ ap batches_of (sym all);
      ends = sym (ap (λ (o : Option End). first_end o (bad_line (lines_in finished text).stop (lines_in finished text).last.number)) first
          ∙ ap (λ (o : Option LineRefusal). bad_line o (lines_in finished text).last.number) both.0.behind_all);
      follows = λ going. subst (λ (l : List Line). Follows text l finished new) (sym both.0.all) both.1;
    }

number_by : (number : ℕ) (lines : List Line) → lines ≡ [] → number_or number lines ≡ number
number_by number lines none = ap (number_or number) none

pub number_is : (text : List ℕ) (taken : List Line) (finished : Bool) (v : Fed) → Follows text taken finished v → (lines_in finished text).lines ≡ taken → next_number (left v) ≡ (lines_in finished text).last.number
number_is text taken finished v f all =
    let none : (left v).lines ≡ [] = none_left taken (left v).lines (ap (λ (s : Split). s.lines) f.reads ∙ all) in
    number_by (left v).last.number (left v).lines none ∙ ap (λ (s : Split). s.last.number) f.reads

-- A LINE THAT IS NO LINE OF FIELDS
pub refused_answer : (text : List ℕ) (taken : List Line) (finished : Bool) (refusal : LineRefusal) (new : Fed) → refusal ≢ line_refusal.NoMemory → Answers text taken finished (Err refusal) new
    → IsEnd text taken finished (Some refusal) × Follows text taken finished new
refused_answer text taken finished line_refusal.BareQuote new other answer = answer
refused_answer text taken finished line_refusal.OpenQuote new other answer = answer
refused_answer text taken finished line_refusal.BadEscape new other answer = answer
refused_answer text taken finished line_refusal.LineTooLong new other answer = answer
refused_answer text taken finished line_refusal.NotUtf8 new other answer = answer
refused_answer text taken finished line_refusal.NoMemory new other answer = absurd (other refl)

pub read_refused : (text : List ℕ) (taken : List BatchDoc) (finished : Bool) (old new : Fed) (position : Position) (ready : List BatchDoc) (refusal : LineRefusal) (number : ℕ)
    → TakesNone old new (Some refusal) → number ≡ next_number (left new) → IsReading text taken finished old position ready
    → HasReadLines text taken finished (Some (Broken number BadLine)) new position ready
read_refused text taken finished old new position ready refusal number takes counts r =
    let both : IsEnd text r.passed finished (Some refusal) × Follows text r.passed finished new = takes text r.passed finished r.follows in
    let none : (left old).lines ≡ [] = none_left r.passed (left old).lines (sym (split_lines text r.passed finished old r.follows) ∙ both.0.all) in
    let all : said_in finished text ≡ r.older = r.said ∙ ap (lines_said r.older) none in
    let first : broken_line [] (lines_in finished text).lines ≡ None = r.broken ∙ ap (broken_line r.older) none in
    let last : number ≡ (lines_in finished text).last.number = counts ∙ number_is text r.passed finished new both.1 both.0.all in
    record {
      stands = subst (λ (l : List DocLine). IsPositionAfter l position) (sym all) r.stands;
      batches = r.batches ∙ ap batches_of (sym all);
      ends = ap (λ (n : ℕ). Some (Broken n BadLine)) last
          ∙ sym (ap (λ (o : Option End). first_end o (bad_line (lines_in finished text).stop (lines_in finished text).last.number)) first
          ∙ ap (λ (o : Option LineRefusal). bad_line o (lines_in finished text).last.number) both.0.behind_all);
      follows = λ going. absurd (cc);
    }
