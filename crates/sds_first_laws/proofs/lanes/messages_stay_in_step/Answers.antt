use Rattle.sds_first_laws.proofs.Link.{messages_in_step}
use Rattle.sds_first_laws.proofs.lanes.messages_stay_in_step.Goals as goal

pub returns : goal.returns
returns c = messages_in_step
