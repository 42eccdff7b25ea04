use Rattle.sds_nodelaws.proofs.Counted.{changes_count_on}
use Rattle.sds_nodelaws.proofs.laws.changes_count_on.Goals as goal

pub returns : goal.returns
returns c = record { count = changes_count_on }
