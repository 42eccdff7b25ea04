use Rattle.sds_trade.proofs.RowLimit.{full_refuses, nearly_full_takes}
use Rattle.sds_trade.proofs.LimitsComputed.{capture_is_full, uncaptured_is_taken}
use Rattle.sds_trade.proofs.worked.limits_refuse.Goals as goal

pub returns-clause-full : goal.returns-clause-full
returns-clause-full c = full_refuses

pub returns-clause-nearly : goal.returns-clause-nearly
returns-clause-nearly c = nearly_full_takes

pub returns-clause-capture : goal.returns-clause-capture
returns-clause-capture c = capture_is_full

pub returns-clause-uncaptured : goal.returns-clause-uncaptured
returns-clause-uncaptured c = uncaptured_is_taken
