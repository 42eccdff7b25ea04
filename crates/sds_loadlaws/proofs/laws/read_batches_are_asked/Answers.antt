use Rattle.sds_loadlaws.proofs.ReadBatches.{read_batches_are_asked}
use Rattle.sds_loadlaws.proofs.laws.read_batches_are_asked.Goals as goal

pub returns : goal.returns
returns c = record { asked = read_batches_are_asked }
