use Rattle.sds_first_laws.proofs.Numbers.{in_order}
use Rattle.sds_first_laws.proofs.writers.writers_stay_in_order.Goals as goal

pub returns : goal.returns
returns c = in_order
