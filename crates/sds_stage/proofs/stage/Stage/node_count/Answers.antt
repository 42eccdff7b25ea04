use Rattle.std.proofs.Common.{◌∙◌}
use Rattle.sds_stage.proofs.Asked.{as_many}
use Rattle.sds_stage.proofs.stage.Stage.node_count.Goals as goal

pub returns : goal.returns
returns c = λ played plays. c.len.ensures
    ∙ (c.args.self.now.nodes.ok.0 ∙ as_many c.args.self.now.config c.args.self.now.nodes.items played.nodes plays.nodes)
