use Rattle.sds_worldlaws.proofs.Everywhere as everywhere
use Rattle.sds_worldlaws.proofs.laws.writes_count_everywhere.Goals as goal

pub returns : goal.returns
returns c = record { count = everywhere.writes_count_everywhere }
