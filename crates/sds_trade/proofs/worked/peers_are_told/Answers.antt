use Rattle.sds_trade.proofs.PeersComputed.{triggers_tell, groups_tell, expressions_tell}
use Rattle.sds_trade.proofs.worked.peers_are_told.Goals as goal

pub returns-clause-triggers : goal.returns-clause-triggers
returns-clause-triggers c = triggers_tell

pub returns-clause-groups : goal.returns-clause-groups
returns-clause-groups c = groups_tell

pub returns-clause-expressions : goal.returns-clause-expressions
returns-clause-expressions c = expressions_tell
