use Rattle.sds_trade.proofs.LoadingComputed.{channel_is_unknown, texts_come_first, parent_is_missing}
use Rattle.sds_trade.proofs.worked.batches_are_refused.Goals as goal

pub returns-clause-channel : goal.returns-clause-channel
returns-clause-channel c = channel_is_unknown

pub returns-clause-texts : goal.returns-clause-texts
returns-clause-texts c = texts_come_first

pub returns-clause-parent : goal.returns-clause-parent
returns-clause-parent c = parent_is_missing
