use Rattle.sds_world.proofs.TakenLines.{prints_by}
use Rattle.sds_world.proofs.play.Play.happen.Goals as goal

pub returns-in-Some-clause-prints : goal.returns-in-Some-clause-prints
returns-in-Some-clause-prints c =
    prints_by c.args.self.now.rehearsal c.happen.new.self c.args.self.now.screen.items c.happen.new.out.items c.args.event c.in-Some.event c.happen.result c.in-Some.is
    c.happen.ensures.plays c.requires.new
