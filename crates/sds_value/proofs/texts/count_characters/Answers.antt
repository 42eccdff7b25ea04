use Rattle.std.proofs.Common.{◌≡◌, ℕ, ◌+◌, ◌<◌, ◌==◌, ◌||◌, List, length, get_or, drop, sym, ap, ◌∙◌, arith}
use Rattle.std.proofs.lemmas.Iterator.{YieldsList-from_chars}
use Rattle.std.proofs.lemmas.Iterator.Consumers.{YieldsList-turn, YieldsList-end}
use Rattle.std.proofs.lemmas.List.{at_drop_more, at_drop_all, length_push}
use Rattle.std.proofs.lemmas.Bool.Decides.{nat_tests}
use Rattle.std.specs.Str.{chars}
use Rattle.sds_value.specs.Values.{has_zero}
use Rattle.sds_value.proofs.texts.count_characters.Goals as goal

has_zero-drop : (cs : List ℕ) (n c : ℕ) → (n < length cs) × (c ≡ get_or cs n c) → has_zero (drop n cs) ≡ (c == 0 || has_zero (drop (n + 1) cs))
has_zero-drop cs n c h = at_drop_more has_zero cs n c h.0 ∙ ap (λ x. x == 0 || has_zero (drop (n + 1) cs)) (sym h.1)

pub returns-then-character-eq0 : goal.returns-then-character-eq0
returns-then-character-eq0 c =
    let t = YieldsList-turn (YieldsList-from_chars c.args.text.now c.utf8.text cc) c.loop-character.yielded _ c.loop-character.yielded_by _ _ c.in-Some.character c.in-Some.is c.next.ensures.steps in
    let e = has_zero-drop _ _ _ t in
    grind (arith, nat_tests)

pub loop-character-preserved : goal.loop-character-preserved
loop-character-preserved c =
    let t = YieldsList-turn (YieldsList-from_chars c.args.text.now c.utf8.text cc) c.loop-character.yielded _ c.loop-character.yielded_by _ _ c.in-Some.character c.in-Some.is c.next.ensures.steps in
    let e = has_zero-drop _ _ _ t in
    let n = length_push c.loop-character.yielded c.in-Some.character in
    record { counted = omega arith; rest = grind (arith, nat_tests) }

pub returns : goal.returns
returns c =
    let t = YieldsList-end (YieldsList-from_chars c.args.text.now c.utf8.text cc) c.loop-character.yielded _ c.loop-character.yielded_by _ _ c.in-None.is c.next.ensures.steps in
    let e = at_drop_all has_zero (chars c.args.text.now) c.loop-character.count (omega (arith, t.1)) in
    (sym c.loop-character.invariant.rest ∙ e, omega (arith, t.1))
