use Rattle.sds_first_world.proofs.Folds.{always_folds}
use Rattle.sds_first_world.proofs.headline.tables_are_folds.Goals as goal

pub returns : goal.returns
returns c = always_folds
