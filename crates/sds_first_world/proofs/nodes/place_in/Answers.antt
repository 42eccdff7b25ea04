use Rattle.sds_first_world.proofs.Lookups.{placed}
use Rattle.sds_first_world.proofs.nodes.place_in.Goals as goal

pub returns : goal.returns
returns c = placed c.args.id.now c.args.nodes.now c.first_place.result c.first_place.ensures
