use Rattle.sds_nodelaws.proofs.Acknowledged.{acked_come_first}
use Rattle.sds_nodelaws.proofs.laws.acknowledged_come_first.Goals as goal

pub returns : goal.returns
returns c = record { first = acked_come_first }
