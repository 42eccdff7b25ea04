use Rattle.std.proofs.Common.{arith}
use Rattle.sds_value.proofs.Weights.{some_of, some_value, digits_bound, few_digits}
use Rattle.sds_value.proofs.sums.sum_digits.Goals as goal

pub unwrap-requires : goal.unwrap-requires
unwrap-requires c = some_of c.add_digits.result _ _ c.add_digits.ensures (few_digits c.args.digits.now c.requires.few c.requires.digits)

pub returns-clause-bound : goal.returns-clause-bound
returns-clause-bound c =
    let is = some_value c.add_digits.result _ _ _ c.add_digits.ensures c.unwrap.ensures in
    omega (arith, is, digits_bound c.args.digits.now c.requires.digits)
