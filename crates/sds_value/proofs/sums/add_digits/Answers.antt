use Rattle.std.proofs.Common.{arith}
use Rattle.sds_value.proofs.Weights.{next_digit, next_over, last_digit}
use Rattle.sds_value.proofs.sums.add_digits.Goals as goal

pub returns-in_default : goal.returns-in_default
returns-in_default c = next_over c.args.digits.now _ _ _ c.loop-digit-test.true c.loop-digit.invariant.so_far c.in_default.ensures

pub loop-digit-preserved : goal.loop-digit-preserved
loop-digit-preserved c = record {
  small = omega (arith, c.in-Some.ensures.0, c.in-Some.ensures.1);
  so_far = next_digit c.args.digits.now _ _ _ _ c.loop-digit-test.true c.in-Some.ensures.1 c.loop-digit.invariant.so_far;
}

pub returns : goal.returns
returns c =
    let whole = last_digit c.args.digits.now c.loop-digit.sum _ c.loop-digit.digit-index c.loop-digit-test.false c.loop-digit.invariant.so_far in
    (omega (arith, whole), whole)
