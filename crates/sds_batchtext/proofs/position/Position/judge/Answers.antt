use Rattle.std.proofs.Common.{◌≡◌, ◌∙◌, ap, sym, drop, true, Ok, Some, List}
use Rattle.sds_batchtext.specs.declared.doc_line.DocLine.{DocLine}
use Rattle.sds_batchtext.specs.Directives.{directive_of}
use Rattle.sds_batchtext.specs.DocLines.{line_said, directive_for}
use Rattle.sds_batchtext.specs.Judging.{may_stand}
use Rattle.sds_batchtext.specs.Positions.{IsPositionAfter}
use Rattle.sds_batchtext.proofs.Judged.{judged_at, said_stands, if_same}
use Rattle.sds_batchtext.proofs.position.Position.judge.Goals as goal

pub returns-in-Some-clause-judged : goal.returns-in-Some-clause-judged
returns-in-Some-clause-judged c = λ older at.
    let named : directive_of c.args.fields ≡ Ok c.in-Ok.directive =
    ap directive_of (sym (c.as_slice.ensures.value ∙ c.inner.ensures)) ∙ (sym c.directive_of.ensures ∙ c.in-Ok.is) in
    let stands : may_stand older c.in-Ok.directive ≡ true = sym (c.may_stand.ensures older at) ∙ c.if-not-may_stand.false in
    let says : line_said c.args.number c.in-Ok.directive (drop 1 c.args.fields) ≡ Some c.in-Some.said =
    ap (line_said c.args.number c.in-Ok.directive) (sym c.arguments_of.ensures) ∙ (sym c.in_ok-line_said.ensures ∙ c.in-Some.is) in
    c.judge_said.ensures.judged older at (said_stands older c.args.number (drop 1 c.args.fields) c.in-Ok.directive c.in-Some.said says stands)
    ∙ sym (judged_at older c.args.number c.args.fields c.in-Ok.directive c.in-Some.said named stands says)

pub returns-in-Some-clause-stands : goal.returns-in-Some-clause-stands
returns-in-Some-clause-stands c =
    if_same c.judge_said.result c.in-Some.said (λ line. (older : List DocLine) → IsPositionAfter older c.args.self.now → may_stand older (directive_for line) ≡ true) c.judge_said.ensures.same (λ older at.
    let stands : may_stand older c.in-Ok.directive ≡ true = sym (c.may_stand.ensures older at) ∙ c.if-not-may_stand.false in
    let says : line_said c.args.number c.in-Ok.directive (drop 1 c.args.fields) ≡ Some c.in-Some.said =
    ap (line_said c.args.number c.in-Ok.directive) (sym c.arguments_of.ensures) ∙ (sym c.in_ok-line_said.ensures ∙ c.in-Some.is) in
    said_stands older c.args.number (drop 1 c.args.fields) c.in-Ok.directive c.in-Some.said says stands)
