use Rattle.sds_stage.proofs.Reopened.{settled_on}
use Rattle.sds_stage.proofs.showing.settle_at.Goals as goal

pub returns-clause-stands : goal.returns-clause-stands
returns-clause-stands c = settled_on c.args.node.now c.settle.new.self c.settle.result c.in-Ok.is c.settle.ensures.node c.settle.ensures.settles
