use Rattle.sds_worldlaws.proofs.Everywhere as everywhere
use Rattle.sds_worldlaws.proofs.laws.changes_are_routed_once_everywhere.Goals as goal

pub returns : goal.returns
returns c = record { once = everywhere.routed_once_everywhere }
