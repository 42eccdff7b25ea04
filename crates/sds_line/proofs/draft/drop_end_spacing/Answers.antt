use Rattle.std.proofs.Common.{◌≡◌, [], string_bytes, sym, ap, ◌∙◌, arith}
use Rattle.std.proofs.lemmas.List.{nil_from_length}
use Rattle.std.proofs.lemmas.Result.{IfOk-equal}
use Rattle.std.proofs.lemmas.Str.{IsUtf8-string_bytes, chars-nil}
use Rattle.std.specs.Str.{chars}
use Rattle.sds_line.specs.Reading.{without_end_spacing}
use Rattle.sds_line.proofs.Texts.{spacing_popped, other_popped}
use Rattle.sds_line.proofs.draft.drop_end_spacing.Goals as goal

pub returns-then-not-is_spacing-clause-ok : goal.returns-then-not-is_spacing-clause-ok
returns-then-not-is_spacing-clause-ok c = IfOk-equal c.push_character.result _ _ _ c.push_character.ensures.ok (other_popped _ _ (chars (string_bytes c.args.text.now)) c.in-Some.last c.is_spacing.result (IsUtf8-string_bytes c.pop.new.self) c.is_spacing.ensures.scalar c.in-Some.ensures.bytes c.is_spacing.ensures.answer (let e = c.if-not-is_spacing.true in cc) c.loop-last.invariant)

pub loop-last-preserved : goal.loop-last-preserved
loop-last-preserved c = spacing_popped _ _ (chars (string_bytes c.args.text.now)) c.in-Some.last c.is_spacing.result (IsUtf8-string_bytes c.pop.new.self) c.is_spacing.ensures.scalar c.in-Some.ensures.bytes c.is_spacing.ensures.answer (let e = c.if-not-is_spacing.false in cc) c.loop-last.invariant

pub returns-clause-ok : goal.returns-clause-ok
returns-clause-ok c =
    let before : string_bytes c.loop-last.text ≡ [] = nil_from_length _ (omega (arith, c.in_default.ensures.none)) in
    let after : string_bytes c.pop.new.self ≡ [] = nil_from_length _ (omega (arith, c.in_default.ensures.none, c.pop.ensures.bound)) in
    ap chars after ∙ (chars-nil ∙ (sym (ap without_end_spacing (ap chars before ∙ chars-nil)) ∙ c.loop-last.invariant))
