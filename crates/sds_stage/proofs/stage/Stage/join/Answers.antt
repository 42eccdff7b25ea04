use Rattle.std.specs.Str.{chars}
use Rattle.sds_stage.proofs.Registered.{gone_join}
use Rattle.sds_stage.proofs.Staged.{on_ok, stage_with}
use Rattle.sds_stage.proofs.stage.Stage.join.Goals as goal

pub returns-in_err-answer-clause-stage : goal.returns-in_err-answer-clause-stage
returns-in_err-answer-clause-stage c =
    stage_with c.args.self.now c.in-Some.child c.join_at.new.node c.requires.stage c.in_err-answer.ensures.node

pub returns-clause-stage : goal.returns-clause-stage
returns-clause-stage c =
    stage_with c.args.self.now c.in-Some.child c.join_at.new.node c.requires.stage c.in_ok-answer.ensures.node

pub returns-clause-goes : goal.returns-clause-goes
returns-clause-goes c =
    on_ok c.put_registering.result c.put_registering.ensures.ok (λ writes. gone_join c.args.self.now c.deref.result.now (chars c.args.asks.now) (chars c.args.at.now)
    (chars c.args.token.now) c.args.other.now c.in-Some.child c.index_mut.result.now c.join_at.new.node c.in_ok-answer.answer c.args.out.now.items
    c.put_registering.new.out.items c.deref.ensures.value c.in-Some.ensures c.index_mut.ensures.value c.in_ok-answer.ensures.goes writes)
