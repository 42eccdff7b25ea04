use Rattle.sds_world.proofs.Turning.{cause_told}
use Rattle.sds_world.proofs.play.Play.play_text_line.Goals as goal

pub returns-clause-cause : goal.returns-clause-cause
returns-clause-cause c =
    cause_told c.args.self.now c.args.line.number c.in_ok-said.said c.in_ok-cause.cause c.stop_at.result c.requires.play c.in_ok-cause.ensures.cause c.stop_at.ensures
