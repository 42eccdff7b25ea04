use Rattle.std.proofs.Common.{refl}
use Rattle.sds_outside.specs.MemKeeping.{IsKeptOpen, kept_told}
use Rattle.sds_standing.proofs.Calls.{begins_go}
use Rattle.sds_stage.specs.Standing.{undamaged}
use Rattle.sds_stage.proofs.Added.{told_empty}
use Rattle.sds_stage.proofs.adding.begin_new.Goals as goal

pub returns-in-Ok-clause-stands : goal.returns-in-Ok-clause-stands
returns-in-Ok-clause-stands c =
    begins_go IsKeptOpen kept_told undamaged c.args.config c.args.me c.in_ok-keeper.keeper c.in-Ok.node c.in-Ok.ensures.created.0 c.in-Ok.ensures.created.1
    c.in-Ok.ensures.told.1 refl
    (told_empty c.in_ok-keeper.keeper c.new.result c.new.ensures c.in_ok-keeper.ensures.records c.in_ok-keeper.ensures.reads c.in_ok-keeper.ensures.commits
    c.in_ok-keeper.ensures.armed) refl
