use Rattle.sds_first_spec.proofs.WorkedComputed.{stranger_is_refused, unknown_batch_is_refused, error_after_ok_is_nothing, error_ends_offer, later_ok_takes_both}
use Rattle.sds_first_spec.proofs.worked.acks_are_judged.Goals as goal

pub returns-clause-stranger : goal.returns-clause-stranger
returns-clause-stranger c = stranger_is_refused

pub returns-clause-unknown : goal.returns-clause-unknown
returns-clause-unknown c = unknown_batch_is_refused

pub returns-clause-loaded : goal.returns-clause-loaded
returns-clause-loaded c = error_after_ok_is_nothing

pub returns-clause-error : goal.returns-clause-error
returns-clause-error c = error_ends_offer

pub returns-clause-later : goal.returns-clause-later
returns-clause-later c = later_ok_takes_both
