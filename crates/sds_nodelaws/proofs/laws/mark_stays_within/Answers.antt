use Rattle.sds_nodelaws.proofs.Counted.{mark_stays_within}
use Rattle.sds_nodelaws.proofs.laws.mark_stays_within.Goals as goal

pub returns : goal.returns
returns c = record { within = mark_stays_within }
