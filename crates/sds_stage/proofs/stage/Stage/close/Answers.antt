use Rattle.sds_stage.proofs.Closed.{closed_keep}
use Rattle.sds_stage.proofs.stage.Stage.close.Goals as goal

pub returns : goal.returns
returns c = record {
  keep = λ world plays.
      closed_keep c.args.self.config c.args.self.nodes.items c.in_ok-keepers.keepers.items world.nodes c.in_ok-keepers.ensures plays.nodes;
}
