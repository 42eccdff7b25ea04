use Rattle.std.proofs.Common.{arith}
use Rattle.sds_value.proofs.Weights.{next_zero, zero_over, last_zero}
use Rattle.sds_value.proofs.sums.add_zeros.Goals as goal

pub returns-in_default : goal.returns-in_default
returns-in_default c = zero_over c.args.number c.args.count _ c.loop.counter c.loop-test.true c.loop.invariant.so_far c.in_default.ensures

pub loop-preserved : goal.loop-preserved
loop-preserved c = record {
  small = omega (arith, c.in-Some.ensures.0, c.in-Some.ensures.1);
  so_far = next_zero c.args.number _ _ c.loop.counter c.in-Some.ensures.1 c.loop.invariant.so_far;
}

pub returns : goal.returns
returns c = last_zero c.args.number c.args.count c.loop.sum c.loop.counter c.loop-test.false c.loop.auto.counter-end c.loop.invariant.small c.loop.invariant.so_far
