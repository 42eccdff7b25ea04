use Rattle.std.proofs.Common.{true, false, inr, refl}
use Rattle.sds_first_world.proofs.Always.{always_told}
use Rattle.sds_first_world.proofs.Answering.{unshown}
use Rattle.sds_first_world.proofs.rehearsal.rehearse.Goals as goal

pub returns-in_default-clause-shows : goal.returns-in_default-clause-shows
returns-in_default-clause-shows g c = λ is. unshown true _ _ _ (inr refl)

pub returns-in_default-clause-unbuilt : goal.returns-in_default-clause-unbuilt
returns-in_default-clause-unbuilt g c = λ other. unshown false _ _ _ (inr refl)

pub returns-in_default-clause-in_step : goal.returns-in_default-clause-in_step
returns-in_default-clause-in_step g c = always_told _

pub returns-clause-in_step : goal.returns-clause-in_step
returns-clause-in_step g c = always_told _
