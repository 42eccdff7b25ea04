use Rattle.sds_trade.proofs.ChangeLaws.{uncaptured_uses_no_number, numbers_are_consecutive}
use Rattle.sds_trade.proofs.laws.captured_changes_are_numbered.Goals as goal

pub returns-clause-none : goal.returns-clause-none
returns-clause-none c = uncaptured_uses_no_number

pub returns-clause-consecutive : goal.returns-clause-consecutive
returns-clause-consecutive c = numbers_are_consecutive
