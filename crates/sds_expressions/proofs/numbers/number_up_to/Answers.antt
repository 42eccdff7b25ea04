use Rattle.std.proofs.Common.{arith}
use Rattle.sds_expressions.proofs.Growing.{too_great}
use Rattle.sds_expressions.proofs.numbers.number_up_to.Goals as goal

pub returns-then-number-most-clause-number : goal.returns-then-number-most-clause-number
returns-then-number-most-clause-number c = too_great c.args.most c.loop-digit.number c.args.digits.now c.loop-digit.digit-index (omega arith) c.loop-digit.invariant.so_far (omega arith)
