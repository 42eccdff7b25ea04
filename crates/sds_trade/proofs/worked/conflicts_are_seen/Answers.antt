use Rattle.sds_trade.proofs.DetectingComputed.{by_key, by_old, by_changed, by_version}
use Rattle.sds_trade.proofs.worked.conflicts_are_seen.Goals as goal

pub returns-clause-key : goal.returns-clause-key
returns-clause-key c = by_key

pub returns-clause-old : goal.returns-clause-old
returns-clause-old c = by_old

pub returns-clause-changed : goal.returns-clause-changed
returns-clause-changed c = by_changed

pub returns-clause-version : goal.returns-clause-version
returns-clause-version c = by_version
