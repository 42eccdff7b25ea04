use Rattle.sds_loadlaws.proofs.ReadBatches.{read_batches_are_spelt}
use Rattle.sds_loadlaws.proofs.laws.read_batches_are_spelt.Goals as goal

pub returns : goal.returns
returns c = record { spelt = read_batches_are_spelt }
