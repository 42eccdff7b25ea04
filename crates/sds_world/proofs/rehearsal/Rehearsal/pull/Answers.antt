use Rattle.std.proofs.Common.{◌≡◌, Bool, true, Option, Some, subst, ◌∙◌, ap}
use Rattle.std.specs.Str.{chars}
use Rattle.sds_types.specs.declared.link.Action.TheVariants.{W}
use Rattle.sds_types.specs.declared.world_event.WorldEvent.TheVariants as event
use Rattle.sds_stage.specs.Sending as stages
use Rattle.sds_world.proofs.Exchanged.{pulls_there, pushes}
use Rattle.sds_world.proofs.Rehearsed.{on_ok, same_played, with_stage}
use Rattle.sds_world.proofs.rehearsal.Rehearsal.pull.Goals as goal

pub returns-in-Some-true-clause-plays : goal.returns-in-Some-true-clause-plays
returns-in-Some-true-clause-plays c =
    on_ok c.exchange.result c.exchange.ensures.exchanges (λ exchanges.
    pushes c.args.self.now (with_stage c.args.self.now c.may_exchange.new.self) c.exchange.new.self c.args.out.now.items c.exchange.new.out.items
    (chars c.args.from.now) (chars c.args.to.now) (event.Pull (chars c.args.to.now) (chars c.args.from.now)) c.may_exchange.ensures.config c.may_exchange.ensures.noise
    (λ played plays. same_played c.args.self.now c.may_exchange.new.self played c.may_exchange.ensures.config c.may_exchange.ensures.noise
    (c.in_ok-may_exchange.ensures.plays played plays.stage) plays)
    (λ played plays. pulls_there c.args.self.now.stage.config played (chars c.args.from.now) (chars c.args.to.now)
    (subst (λ (o : Option Bool). stages.AsksWay c.args.self.now.stage.config played (chars c.args.from.now) (chars c.args.to.now) W o) (c.in-Some-true.is ∙ ap (λ (b : Bool). Some b) c.in-Some-true.field-0-test)
    (c.in_ok-may_exchange.ensures.asks played plays.stage))) exchanges)
