use Rattle.sds_trade.proofs.LoadingComputed.{count_is_added, sum_is_too_great, less_is_added, old_is_needed}
use Rattle.sds_trade.proofs.worked.counts_are_added.Goals as goal

pub returns-clause-added : goal.returns-clause-added
returns-clause-added c = count_is_added

pub returns-clause-great : goal.returns-clause-great
returns-clause-great c = sum_is_too_great

pub returns-clause-less : goal.returns-clause-less
returns-clause-less c = less_is_added

pub returns-clause-old : goal.returns-clause-old
returns-clause-old c = old_is_needed
