-- What is judged of a line, step by step.
use Rattle.std.proofs.Common.{subst, ◌≡◌, ℕ, Bool, true, List, drop, sym, ap, ◌∙◌, Option, Some, IfSome, Result, Ok, Err, IfOk, if◌then◌else◌}
use Rattle.sds_types.specs.declared.document.DocumentCause.{DocumentCause}
use Rattle.sds_types.specs.declared.document.DocumentCause.TheVariants.{OutOfPlace}
use Rattle.sds_value.specs.declared.row.Field.{Field}
use Rattle.sds_batchtext.specs.declared.directive.Directive.{Directive}
use Rattle.sds_batchtext.specs.declared.doc_line.DocLine.{DocLine}
use Rattle.sds_batchtext.specs.Directives.{directive_of}
use Rattle.sds_batchtext.specs.DocLines.{line_said, directive_for}
use Rattle.sds_batchtext.specs.Judging.{may_stand, judged_said, judged_directive, judged}
use Rattle.sds_batchtext.proofs.Said.{directive_said}

-- a line's directive may stand, and its fields are what the directive asks for
pub judged_at : (older : List DocLine) (number : ℕ) (fields : List Field) (d : Directive) (said : DocLine) → directive_of fields ≡ Ok d → may_stand older d ≡ true
    → line_said number d (drop 1 fields) ≡ Some said → judged older number fields ≡ judged_said older (Some said)
judged_at older number fields d said named stands says =
    ap (λ (r : Result Directive DocumentCause). judged_directive older r number (drop 1 fields)) named
    ∙ (ap (λ (b : Bool). if b then judged_said older (line_said number d (drop 1 fields)) else Err OutOfPlace) stands ∙ ap (judged_said older) says)

-- so what it says may stand
pub said_stands : (older : List DocLine) (number : ℕ) (fields : List Field) (d : Directive) (said : DocLine) → line_said number d fields ≡ Some said → may_stand older d ≡ true
    → may_stand older (directive_for said) ≡ true
said_stands older number fields d said says stands =
    let same : directive_for said ≡ d = subst (λ (o : Option DocLine). IfSome o (λ line. directive_for line ≡ d)) says (directive_said number d fields) in
    ap (may_stand older) same ∙ stands

-- what holds of a line holds of what is read, which is that line
pub if_same : (r : Result DocLine DocumentCause) (said : DocLine) (P : DocLine → Type 0) → IfOk r (λ line. line ≡ said) → P said → IfOk r P
if_same (Ok line) said P same holds = subst P (sym same) holds
if_same (Err cause) said P same holds = tt
