use Rattle.sds_nodelaws.proofs.Writing.{last_is_kept, writers_count}
use Rattle.sds_nodelaws.proofs.laws.writers_count.Goals as goal

pub returns-clause-count : goal.returns-clause-count
returns-clause-count c = writers_count

pub returns-clause-last : goal.returns-clause-last
returns-clause-last c = last_is_kept
