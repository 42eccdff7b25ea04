use Rattle.sds_first_laws.proofs.Counted.{never_fall}
use Rattle.sds_first_laws.proofs.counters.counters_never_fall.Goals as goal

pub returns : goal.returns
returns c = never_fall
