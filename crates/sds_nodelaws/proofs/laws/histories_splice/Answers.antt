use Rattle.sds_nodelaws.proofs.Splicing.{calls_step_on, histories_splice}
use Rattle.sds_nodelaws.proofs.laws.histories_splice.Goals as goal

pub returns-clause-step : goal.returns-clause-step
returns-clause-step c = calls_step_on

pub returns-clause-splice : goal.returns-clause-splice
returns-clause-splice c = histories_splice
