use Rattle.sds_batchtext.proofs.Prefixes.{batches_go_on, batches_go_on_at_end}
use Rattle.sds_batchtext.proofs.laws.batches_go_on.Goals as goal

pub returns : goal.returns
returns c = record { on = batches_go_on; end = batches_go_on_at_end }
