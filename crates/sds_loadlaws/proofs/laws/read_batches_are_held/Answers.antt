use Rattle.sds_loadlaws.proofs.ReadBatches.{read_batches_are_held}
use Rattle.sds_loadlaws.proofs.laws.read_batches_are_held.Goals as goal

pub returns : goal.returns
returns c = record { held = read_batches_are_held }
