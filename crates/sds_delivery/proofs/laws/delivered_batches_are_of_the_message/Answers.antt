use Rattle.sds_delivery.proofs.Delivered.{of_the_message}
use Rattle.sds_delivery.proofs.laws.delivered_batches_are_of_the_message.Goals as goal

pub returns : goal.returns
returns c = λ mentioned batches. of_the_message mentioned batches
