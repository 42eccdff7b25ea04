use Rattle.std.proofs.Common.{not}
use Rattle.sds_line.specs.Splitting.{lines_in}
use Rattle.sds_world.proofs.Turning.{first_goes}
use Rattle.sds_world.proofs.text.play_text.Goals as goal

pub returns-clause-ends : goal.returns-clause-ends
returns-clause-ends c =
    c.in_ok-bad.ensures.ends c.args.config c.args.noise
    (first_goes c.args.config c.args.noise c.args.is_over (lines_in (not c.args.is_over) c.args.text.now) c.begun-play.result c.begun-play.ensures.config c.begun-play.ensures.noise
    c.begun-play.ensures.scene c.begun-play.ensures.screen)
