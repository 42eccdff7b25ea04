use Rattle.sds_first_world.proofs.Folds.{always_once}
use Rattle.sds_first_world.proofs.headline.routed_changes_go_once.Goals as goal

pub returns : goal.returns
returns c = always_once
