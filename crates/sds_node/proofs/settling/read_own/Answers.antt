use Rattle.sds_node.proofs.Reading.{cause_own}
use Rattle.sds_node.proofs.settling.read_own.Goals as goal

pub returns-in-Err-clause-cause : goal.returns-in-Err-clause-cause
returns-in-Err-clause-cause g c =
    λ found is. cause_own c.args.config.now c.args.me.now (g.K.Keeper.keeping c.args.keeper.now) (g.K.Keeper.damage c.args.keeper.now) found
    (c.read_kept.ensures.cause found (cc))
