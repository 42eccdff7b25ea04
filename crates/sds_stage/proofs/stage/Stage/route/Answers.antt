use Rattle.std.specs.Str.{chars}
use Rattle.sds_stage.proofs.Staged.{on_ok, plays_route, stage_with}
use Rattle.sds_stage.proofs.stage.Stage.route.Goals as goal

pub returns-in_err-answer-clause-stage : goal.returns-in_err-answer-clause-stage
returns-in_err-answer-clause-stage c =
    stage_with c.args.self.now c.in-Some.place c.route_at.new.node c.requires.stage c.in_err-answer.ensures.node

pub returns-clause-stage : goal.returns-clause-stage
returns-clause-stage c =
    stage_with c.args.self.now c.in-Some.place c.route_at.new.node c.requires.stage c.in_ok-answer.ensures.node

pub returns-clause-plays : goal.returns-clause-plays
returns-clause-plays c =
    on_ok c.put_routing.result c.put_routing.ensures.ok (λ writes. plays_route c.args.self.now c.deref.result.now (chars c.args.id.now) c.in-Some.place
    c.index_mut.result.now c.route_at.new.node c.in_ok-answer.answer c.args.out.now.items c.put_routing.new.out.items c.deref.ensures.value c.in-Some.ensures
    c.index_mut.ensures.value c.in_ok-answer.ensures.goes writes)
