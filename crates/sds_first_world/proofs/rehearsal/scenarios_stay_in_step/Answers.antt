use Rattle.sds_first_world.proofs.Always.{always}
use Rattle.sds_first_world.proofs.rehearsal.scenarios_stay_in_step.Goals as goal

pub returns : goal.returns
returns c = always
