use Rattle.sds_batchtext.proofs.Ordered.{head_first, batch_next}
use Rattle.sds_batchtext.proofs.laws.documents_are_written_in_order.Goals as goal

pub returns : goal.returns
returns c = record { head = head_first; batch = batch_next }
