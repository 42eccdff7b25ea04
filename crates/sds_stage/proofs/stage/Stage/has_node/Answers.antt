use Rattle.std.proofs.Common.{◌∙◌}
use Rattle.std.specs.Str.{chars}
use Rattle.sds_stage.proofs.Asked.{node_is}
use Rattle.sds_stage.proofs.stage.Stage.has_node.Goals as goal

pub returns : goal.returns
returns c = λ played plays. c.is_some.ensures
    ∙ node_is c.args.self.now (chars c.args.id.now) c.deref.result.now c.place_in.result c.deref.ensures.value c.place_in.ensures played plays
