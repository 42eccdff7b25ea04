use Rattle.sds_trade.proofs.ResolvingComputed.{row_is_skipped, batch_is_ignored, manual_is_refused, tie_is_skipped, newer_is_applied}
use Rattle.sds_trade.proofs.worked.conflicts_are_resolved.Goals as goal

pub returns-clause-row : goal.returns-clause-row
returns-clause-row c = row_is_skipped

pub returns-clause-batch : goal.returns-clause-batch
returns-clause-batch c = batch_is_ignored

pub returns-clause-manual : goal.returns-clause-manual
returns-clause-manual c = manual_is_refused

pub returns-clause-tie : goal.returns-clause-tie
returns-clause-tie c = tie_is_skipped

pub returns-clause-newer : goal.returns-clause-newer
returns-clause-newer c = newer_is_applied
