use Rattle.std.proofs.Common.{refl, subst}
use Rattle.std.specs.Str.{chars}
use Rattle.sds_types.specs.declared.config.Config.{Config}
use Rattle.sds_history.specs.world.Calling.{armed}
use Rattle.sds_stage.proofs.Reopened.{Reopens, plays_armed}
use Rattle.sds_stage.proofs.Staged.{on_ok}
use Rattle.sds_stage.proofs.stage.Stage.fault.Goals as goal

pub returns-clause-plays : goal.returns-clause-plays
returns-clause-plays c =
    on_ok c.fault_at.result c.fault_at.ensures.faulty (λ opens. plays_armed c.args.self.now (record c.args.self.now { nodes = c.fault_at.new.nodes })
    c.deref.result.now (chars c.args.id.now) c.in-Some.place c.args.stands refl c.deref.ensures.value c.in-Some.ensures
    (subst (λ (config : Config). Reopens config (λ stood. armed stood c.args.stands) c.args.self.now.nodes.items c.fault_at.new.nodes.items c.in-Some.place)
    c.in_ok-config.ensures opens))
