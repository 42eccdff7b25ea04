-- What the lines of a text say after what earlier lines said.
use Rattle.std.proofs.Common.{◌≡◌, ℕ, ◌+◌, ◌≤◌, Bool, true, false, ◌&&◌, ◌||◌, not, List, [], ◌∷◌, ◌++◌, length, drop, Option, None, Some, Result, Ok, Err, refl, ap, ◌∙◌, append_assoc, if◌then◌else◌}
use Rattle.std.specs.Prelude.{is_some}
use Rattle.sds_line.proofs.Alone.{whole_line}
use Rattle.sds_line.specs.Reading.{line_of}
use Rattle.sds_line.specs.Splitting.{Split, line_feeds, lines_from}
use Rattle.sds_line.specs.declared.refusal.LineRefusal.{LineRefusal}
use Rattle.sds_types.specs.declared.document.DocumentCause.{DocumentCause}
use Rattle.sds_types.specs.declared.document.DocumentCause.TheVariants.{BadFields, CommitMismatch}
use Rattle.sds_types.specs.declared.document.End.{End}
use Rattle.sds_types.specs.declared.document.End.TheVariants.{Broken}
use Rattle.sds_value.specs.declared.row.Field.{Field}
use Rattle.sds_batchtext.specs.declared.directive.Directive.{Directive}
use Rattle.sds_batchtext.specs.declared.doc_line.DocLine.{DocLine}
use Rattle.sds_batchtext.specs.Directives.{directive_of}
use Rattle.sds_batchtext.specs.DocLines.{line_said}
use Rattle.sds_batchtext.specs.LookingBack.{heading_of, pending_old}
use Rattle.sds_batchtext.specs.Judging.{judged, if_judged, lines_said, broken_line, may_stand, follows_old, has_place, has_values, has_its_id}
use Rattle.sds_batchtext.specs.Writing.{text_of_lines}
use Rattle.sds_batchtext.proofs.Fronts.{text_append}
use Rattle.sds_batchtext.proofs.Judged.{judged_at}

-- what lines say after older ones, the first that may not stand, and why no more are read
pub record Outcome : Type 0 where
  pub said : List DocLine
  pub broken : Option End
  pub stop : Option LineRefusal

abbrev pub outcome_of : List DocLine → Split → Outcome
outcome_of older s = record { said = lines_said older s.lines; broken = broken_line older s.lines; stop = s.stop }

-- The lines are read after what older lines say, and lead to what later ones say, whatever follows.
abbrev pub Plays : List DocLine → List (List ℕ) → List DocLine → Type 0
Plays older lines later = (n : ℕ) (text : List ℕ) → (m : ℕ) × (outcome_of older (lines_from n (text_of_lines lines ++ text)) ≡ outcome_of later (lines_from m text))

abbrev short_line : List ℕ → Type 0
short_line line = length line ≤ 1048576

pub plays_line_at : (older : List DocLine) (line : List ℕ) (field : Field) (fields : List Field) (said : DocLine) (n : ℕ) (text : List ℕ) → line_of line ≡ Ok (field ∷ fields) → length line ≤ 1048576
    → judged older n (field ∷ fields) ≡ Ok said → outcome_of older (lines_from n (text_of_lines (line ∷ []) ++ text)) ≡ outcome_of (said ∷ older) (lines_from (n + line_feeds line + 1) text)
plays_line_at older line field fields said n text reads short judges =
    ap (λ (bytes : List ℕ). outcome_of older (lines_from n bytes)) (append_assoc line (10 ∷ []) text)
    ∙ (ap (outcome_of older) (whole_line n line text (field ∷ fields) reads short)
    ∙ ap (λ (j : Result DocLine DocumentCause). after_one j) judges)
  where
    after_one : Result DocLine DocumentCause → Outcome
    after_one j = record {
      said = if_judged j (λ cause. older) (λ said. lines_said (said ∷ older) (lines_from (n + line_feeds line + 1) text).lines);
      broken = if_judged j (λ cause. Some (Broken n cause)) (λ said. broken_line (said ∷ older) (lines_from (n + line_feeds line + 1) text).lines);
      stop = (lines_from (n + line_feeds line + 1) text).stop;
    }

pub plays_line : (older : List DocLine) (line : List ℕ) (field : Field) (fields : List Field) (said : DocLine) → line_of line ≡ Ok (field ∷ fields) → length line ≤ 1048576
    → ((n : ℕ) → judged older n (field ∷ fields) ≡ Ok said) → Plays older (line ∷ []) (said ∷ older)
plays_line older line field fields said reads short judges = λ n text. (n + line_feeds line + 1, plays_line_at older line field fields said n text reads short (judges n))

pub plays_then : (first middle last : List DocLine) (lines more : List (List ℕ)) → Plays first lines middle → Plays middle more last → Plays first (lines ++ more) last
plays_then first middle last lines more one two = λ n text.
    let p = one n (text_of_lines more ++ text) in
    let q = two p.0 text in (
      q.0,
      ap (λ (bytes : List ℕ). outcome_of first (lines_from n bytes)) (ap (λ (l : List ℕ). l ++ text) (text_append lines more) ∙ append_assoc (text_of_lines lines) (text_of_lines more) text)
          ∙ (p.1 ∙ q.1),
    )

-- a line that may stand, with the values and the id that it asks for
pub judged_ok : (older : List DocLine) (n : ℕ) (fields : List Field) (d : Directive) (said : DocLine) → directive_of fields ≡ Ok d → may_stand older d ≡ true → line_said n d (drop 1 fields) ≡ Some said
    → has_values (heading_of older) said ≡ true → has_its_id older said ≡ true → judged older n fields ≡ Ok said
judged_ok older n fields d said named stands says values id =
    judged_at older n fields d said named stands says
    ∙ (ap (λ (b : Bool). if b then (if has_its_id older said then Ok said else Err CommitMismatch) else Err BadFields) values ∙ ap (λ (b : Bool). if b then Ok said else Err CommitMismatch) id)

pub stands : (older : List DocLine) (d : Directive) → pending_old older ≡ None → has_place older d ≡ true → may_stand older d ≡ true
stands older d pending placed = ap (λ (o : Option (List Field)). (not (is_some o) || follows_old d) && has_place older d) pending ∙ placed

or_true : (a : Bool) → (a || true) ≡ true
or_true true = refl
or_true false = refl

pub stands_after : (older : List DocLine) (d : Directive) → follows_old d ≡ true → has_place older d ≡ true → may_stand older d ≡ true
stands_after older d follows placed =
    ap (λ (b : Bool). (not (is_some (pending_old older)) || b) && has_place older d) follows
    ∙ (ap (λ (b : Bool). b && has_place older d) (or_true (not (is_some (pending_old older)))) ∙ placed)
