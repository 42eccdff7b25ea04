use Rattle.sds_first_world.proofs.Stepping.{stands_is}
use Rattle.sds_first_world.proofs.game.may_stand.Goals as goal

pub returns-clause-fits : goal.returns-clause-fits
returns-clause-fits c = λ older b.
    stands_is older c.args.place.now c.args.stage.now c.args.line.now c.last_said-last.result c.is_settled-settled.result c.fits.result c.last_said-last.ensures c.is_settled-settled.ensures c.fits.ensures.fits b
