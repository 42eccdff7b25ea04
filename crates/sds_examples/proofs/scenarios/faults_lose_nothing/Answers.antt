use Rattle.sds_examples.proofs.FaultsComputed.{faults_lose_nothing}
use Rattle.sds_examples.proofs.scenarios.faults_lose_nothing.Goals as goal

pub returns : goal.returns
returns c = record { prints = faults_lose_nothing }
