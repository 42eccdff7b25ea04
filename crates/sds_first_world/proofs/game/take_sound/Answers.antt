use Rattle.sds_first_world.proofs.Soundness.{behind-sound}
use Rattle.sds_first_world.proofs.game.take_sound.Goals as goal

pub returns-clause-place : goal.returns-clause-place
returns-clause-place c = rw c.in_ok-event.ensures.place (behind-sound c.args.place.now c.args.line c.requires.place c.requires.line)
