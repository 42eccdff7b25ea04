use Rattle.sds_trade.proofs.CapturingComputed.{groups_capture, events_capture, changes_are_numbered}
use Rattle.sds_trade.proofs.worked.steps_are_captured.Goals as goal

pub returns-clause-groups : goal.returns-clause-groups
returns-clause-groups c = groups_capture

pub returns-clause-events : goal.returns-clause-events
returns-clause-events c = events_capture

pub returns-clause-numbers : goal.returns-clause-numbers
returns-clause-numbers c = changes_are_numbered
