use Rattle.sds_worldlaws.proofs.Pushes.{pulls_acknowledge, pushes_acknowledge}
use Rattle.sds_worldlaws.proofs.laws.pushes_acknowledge.Goals as goal

pub returns-clause-push : goal.returns-clause-push
returns-clause-push c = pushes_acknowledge

pub returns-clause-pull : goal.returns-clause-pull
returns-clause-pull c = pulls_acknowledge
