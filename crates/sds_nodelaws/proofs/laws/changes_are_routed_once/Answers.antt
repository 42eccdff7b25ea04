use Rattle.sds_nodelaws.proofs.Routes.{routed_in_one_batch}
use Rattle.sds_nodelaws.proofs.laws.changes_are_routed_once.Goals as goal

pub returns : goal.returns
returns c = record { once = routed_in_one_batch }
