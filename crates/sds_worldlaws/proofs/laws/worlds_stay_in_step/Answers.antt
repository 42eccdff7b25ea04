use Rattle.sds_worldlaws.proofs.Whole.{worlds_stay_in_step}
use Rattle.sds_worldlaws.proofs.laws.worlds_stay_in_step.Goals as goal

pub returns : goal.returns
returns c = record { step = worlds_stay_in_step }
