use Rattle.sds_standing.proofs.Calls.{begins_go}
use Rattle.sds_standing.proofs.laws.begins_go.Goals as goal

pub returns : goal.returns
returns g c = begins_go g.K.Keeper.is_open g.K.Keeper.keeping g.K.Keeper.damage
