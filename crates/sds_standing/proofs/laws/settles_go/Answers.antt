use Rattle.sds_standing.proofs.Calls.{settles_go}
use Rattle.sds_standing.proofs.laws.settles_go.Goals as goal

pub returns : goal.returns
returns g c = settles_go g.K.Keeper.is_open g.K.Keeper.keeping g.K.Keeper.damage
