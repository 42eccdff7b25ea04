use Rattle.sds_standing.proofs.Calls.{opens_go}
use Rattle.sds_standing.proofs.laws.opens_go.Goals as goal

pub returns : goal.returns
returns g c = opens_go g.K.Keeper.is_open g.K.Keeper.keeping g.K.Keeper.damage
