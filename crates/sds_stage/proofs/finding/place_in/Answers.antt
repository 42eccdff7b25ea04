use Rattle.std.specs.Str.{chars}
use Rattle.sds_stage.proofs.Lookups.{placed}
use Rattle.sds_stage.proofs.finding.place_in.Goals as goal

pub returns : goal.returns
returns c = placed (chars c.args.id.now) c.args.nodes.now c.first_place.result c.first_place.ensures
