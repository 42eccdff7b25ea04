use Rattle.sds_first_spec.proofs.WorkedComputed.{last_number_is_again, earlier_is_old, skipped_is_gap, counters_end}
use Rattle.sds_first_spec.proofs.worked.writes_go_by_number.Goals as goal

pub returns-clause-again : goal.returns-clause-again
returns-clause-again c = last_number_is_again

pub returns-clause-old : goal.returns-clause-old
returns-clause-old c = earlier_is_old

pub returns-clause-gap : goal.returns-clause-gap
returns-clause-gap c = skipped_is_gap

pub returns-clause-counters : goal.returns-clause-counters
returns-clause-counters c = counters_end
