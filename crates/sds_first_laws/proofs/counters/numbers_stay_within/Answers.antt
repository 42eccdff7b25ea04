use Rattle.sds_first_laws.proofs.Counted.{stay_within}
use Rattle.sds_first_laws.proofs.counters.numbers_stay_within.Goals as goal

pub returns : goal.returns
returns c = stay_within
