use Rattle.sds_stage.proofs.Reopened.{opened_again}
use Rattle.sds_stage.proofs.crashing.open_again.Goals as goal

pub returns-in-Ok-clause-stands : goal.returns-in-Ok-clause-stands
returns-in-Ok-clause-stands c =
    opened_again c.args.config c.args.keeper c.open.result c.in-Ok.node c.in-Ok.is c.requires c.open.ensures.opened c.open.ensures.told c.open.ensures.cause
