use Rattle.sds_first_laws.proofs.PairEvents.{stay_in_step}
use Rattle.sds_first_laws.proofs.pairs.pairs_stay_in_step.Goals as goal

pub returns : goal.returns
returns c = stay_in_step
