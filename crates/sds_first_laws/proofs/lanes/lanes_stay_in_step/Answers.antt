use Rattle.sds_first_laws.proofs.Link.{in_step}
use Rattle.sds_first_laws.proofs.lanes.lanes_stay_in_step.Goals as goal

pub returns : goal.returns
returns c = in_step
