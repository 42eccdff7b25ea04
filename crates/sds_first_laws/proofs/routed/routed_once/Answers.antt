use Rattle.sds_first_laws.proofs.Once.{stays_once}
use Rattle.sds_first_laws.proofs.routed.routed_once.Goals as goal

pub returns : goal.returns
returns c = stays_once
