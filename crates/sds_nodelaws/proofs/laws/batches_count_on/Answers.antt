use Rattle.sds_nodelaws.proofs.Counted.{batches_count_on}
use Rattle.sds_nodelaws.proofs.laws.batches_count_on.Goals as goal

pub returns : goal.returns
returns c = record { count = batches_count_on }
