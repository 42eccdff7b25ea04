-- What is split of a front of a text is a front of what is split of the whole.
use Rattle.std.proofs.Common.{◌≡◌, ℕ, List, [], ◌++◌, refl, sym, ap, ◌∙◌, Bool, true, false, Option, Some, None, if◌then◌else◌}
use Rattle.std.proofs.lemmas.List.{append-nil}
use Rattle.sds_line.specs.declared.line.Line.{Line}
use Rattle.sds_line.specs.declared.refusal.LineRefusal.{LineRefusal}
use Rattle.sds_line.specs.Splitting.{LastLine, Split, and_then, split, line_at, text_end, lines_in}
use Rattle.sds_line.proofs.Seams.{split_append, and_then_assoc}

-- the rest of a text, and its end where it is known
abbrev pub rest_in : Bool → List ℕ → LastLine → Split
rest_in finished more u = if finished then and_then (split u more) text_end else split u more

-- a text in two parts
pub in_two : (finished : Bool) (front more : List ℕ) → lines_in finished (front ++ more) ≡ and_then (lines_in false front) (λ u. rest_in finished more u)
in_two false front more = split_append (line_at 1) front more
in_two true front more =
    ap (λ (s : Split). and_then s text_end) (split_append (line_at 1) front more)
    ∙ and_then_assoc (split (line_at 1) front) (λ u. split u more) text_end

-- what is split stays, whatever follows
onward : (s : Split) (f : LastLine → Split) → (rest : List Line) × ((and_then s f).lines ≡ s.lines ++ rest)
onward s f = at s.lines s.stop s.last
  where
    at : (lines : List Line) (stop : Option LineRefusal) (last : LastLine) → (rest : List Line) × ((and_then (record { lines = lines; stop = stop; last = last }) f).lines ≡ lines ++ rest)
    at lines (Some refusal) last = ([], sym (append-nil lines))
    at lines None last = ((f last).lines, refl)

-- nothing follows a refusal
stopped : (s : Split) (f : LastLine → Split) (refusal : LineRefusal) → s.stop ≡ Some refusal → and_then s f ≡ s
stopped s f refusal e = rw e refl

-- the lines of a front of a text are the first of the text's lines
pub lines_go_on : (finished : Bool) (front more : List ℕ) → (rest : List Line) × ((lines_in finished (front ++ more)).lines ≡ (lines_in false front).lines ++ rest)
lines_go_on finished front more =
    let on = onward (lines_in false front) (λ u. rest_in finished more u) in
    (on.0, ap (λ (s : Split). s.lines) (in_two finished front more) ∙ on.1)

-- so are the lines that a text has before its end is known
pub lines_go_on_at_end : (text : List ℕ) → (rest : List Line) × ((lines_in true text).lines ≡ (lines_in false text).lines ++ rest)
lines_go_on_at_end text = onward (split (line_at 1) text) text_end

-- behind a refusal nothing more of a text matters
pub refused_lines_stay : (finished : Bool) (front more : List ℕ) (refusal : LineRefusal) → (lines_in false front).stop ≡ Some refusal → lines_in finished (front ++ more) ≡ lines_in false front
refused_lines_stay finished front more refusal e = in_two finished front more ∙ stopped (lines_in false front) (λ u. rest_in finished more u) refusal e

-- and its end doesn't either
pub refused_lines_stay_at_end : (text : List ℕ) (refusal : LineRefusal) → (lines_in false text).stop ≡ Some refusal → lines_in true text ≡ lines_in false text
refused_lines_stay_at_end text refusal e = stopped (split (line_at 1) text) text_end refusal e
