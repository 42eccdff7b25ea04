use Rattle.std.proofs.Common.{refl}
use Rattle.sds_world.proofs.Answering.{closed}
use Rattle.sds_world.proofs.rehearsing.rehearse_text.Goals as goal

pub returns-clause-ends : goal.returns-clause-ends
returns-clause-ends c =
    closed c.args.config c.args.noise c.args.text.now c.args.is_over c.in_ok-play.field-0.play c.in_ok-play.field-0.bad _ c.in_ok-keepers.keepers.items
    c.in_ok-play.ensures.ends c.in_ok-keepers.ensures.keep refl refl refl
