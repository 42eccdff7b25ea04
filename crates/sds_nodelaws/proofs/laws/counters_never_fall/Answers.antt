use Rattle.sds_nodelaws.proofs.Counted.{counters_never_fall}
use Rattle.sds_nodelaws.proofs.laws.counters_never_fall.Goals as goal

pub returns : goal.returns
returns c = record { fall = counters_never_fall }
