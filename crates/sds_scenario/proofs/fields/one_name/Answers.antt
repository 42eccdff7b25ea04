use Rattle.std.proofs.Common.{arith}
use Rattle.std.proofs.lemmas.Bool.Decides.{nat_tests}
use Rattle.sds_scenario.proofs.Counts.{many_one}
use Rattle.sds_scenario.proofs.fields.one_name.Goals as goal

pub returns-then-not-is_empty : goal.returns-then-not-is_empty
returns-then-not-is_empty c = many_one c.args.fields.now (grind (arith, nat_tests))
