use Rattle.std.proofs.Common.{◌∙◌, sym, eq-eqb, arith, false, eqb, ◌≡◌, get_or}
use Rattle.sds_rowvalues.proofs.Looking.{value_found, value_passed}
use Rattle.sds_rowvalues.proofs.row_values.value_for.Goals as goal

pub returns-then-other-place : goal.returns-then-other-place
returns-then-other-place c =
    c.value_at.ensures ∙ sym (value_found c.args.places.now c.args.values.now c.loop-at.at c.args.place c.loop-at-test.true (eq-eqb _ _ c.if-other-place.true)) ∙ c.loop-at.invariant

pub loop-at-preserved : goal.loop-at-preserved
loop-at-preserved c =
    let ne : eqb (get_or c.args.places.now c.loop-at.at 0) c.args.place ≡ false = grind arith in
    sym (value_passed c.args.places.now c.args.values.now c.loop-at.at c.args.place c.loop-at-test.true ne) ∙ c.loop-at.invariant
