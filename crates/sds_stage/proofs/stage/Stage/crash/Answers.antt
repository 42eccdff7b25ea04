use Rattle.std.proofs.Common.{refl, subst}
use Rattle.std.specs.Str.{chars}
use Rattle.sds_types.specs.declared.config.Config.{Config}
use Rattle.sds_stage.proofs.Reopened.{Reopens, plays_crashed}
use Rattle.sds_stage.proofs.Staged.{on_ok}
use Rattle.sds_stage.proofs.stage.Stage.crash.Goals as goal

pub returns-clause-plays : goal.returns-clause-plays
returns-clause-plays c =
    on_ok c.put_crashed-2.result c.put_crashed-2.ensures.ok (λ writes. plays_crashed c.args.self.now (record c.args.self.now { nodes = c.crash_at.new.nodes })
    c.deref.result.now (chars c.args.id.now) c.in-Some.place c.args.out.now.items c.put_crashed-2.new.out.items refl c.deref.ensures.value c.in-Some.ensures
    (subst (λ (config : Config). Reopens config (λ stood. stood) c.args.self.now.nodes.items c.crash_at.new.nodes.items c.in-Some.place) c.in_ok-config.ensures
    c.in_ok-crash_at.ensures.stands) writes)
