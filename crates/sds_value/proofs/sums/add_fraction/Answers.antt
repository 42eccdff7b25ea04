use Rattle.std.proofs.Common.{arith}
use Rattle.sds_value.proofs.Weights.{fraction_some, fraction_over}
use Rattle.sds_value.proofs.sums.add_fraction.Goals as goal

pub returns-in_default : goal.returns-in_default
returns-in_default c = fraction_over c.args.number c.args.count c.args.fraction.now (omega (arith, c.if-count-fraction.false)) c.in_default.ensures

pub returns : goal.returns
returns c = fraction_some c.add_zeros.result c.args.number c.args.count c.in-Some.sum c.args.fraction.now (omega (arith, c.if-count-fraction.false)) c.in-Some.ensures.1 c.add_zeros.ensures
