use Rattle.sds_world.proofs.Reached.{scenarios_stay_in_step}
use Rattle.sds_world.proofs.laws.scenarios_stay_in_step.Goals as goal

pub returns : goal.returns
returns c = record { step = scenarios_stay_in_step }
