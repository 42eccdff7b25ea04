use Rattle.sds_first_spec.proofs.WorkedComputed.{repeat_changes_nothing, register_again_is_nothing}
use Rattle.sds_first_spec.proofs.worked.repeats_change_nothing.Goals as goal

pub returns-clause-message : goal.returns-clause-message
returns-clause-message c = repeat_changes_nothing

pub returns-clause-register : goal.returns-clause-register
returns-clause-register c = register_again_is_nothing
