use Rattle.std.proofs.Common.{arith}
use Rattle.sds_value.proofs.Weights.{some_of, some_value, filled_bound}
use Rattle.sds_value.proofs.stamps.find_subsecond.Goals as goal

pub unwrap-requires : goal.unwrap-requires
unwrap-requires c = some_of c.add_fraction.result _ _ c.add_fraction.ensures (omega (arith, filled_bound 9 c.args.fraction.now c.requires))

pub returns-clause-bound : goal.returns-clause-bound
returns-clause-bound c =
    let is = some_value c.add_fraction.result _ _ _ c.add_fraction.ensures c.unwrap.ensures in
    omega (arith, is, filled_bound 9 c.args.fraction.now c.requires)
