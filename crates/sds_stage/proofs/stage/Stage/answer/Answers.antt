use Rattle.std.proofs.Common.{sym, ◌∙◌}
use Rattle.std.specs.Str.{chars}
use Rattle.sds_stage.proofs.Messaged.{has_answered}
use Rattle.sds_stage.proofs.Staged.{stage_with}
use Rattle.sds_stage.proofs.stage.Stage.answer.Goals as goal

pub returns-in_err-answer-clause-stage : goal.returns-in_err-answer-clause-stage
returns-in_err-answer-clause-stage c = stage_with c.args.self.now c.in-Some.place c.answer_at.new.node c.requires.stage c.in_err-answer.ensures.node

pub returns-clause-stage : goal.returns-clause-stage
returns-clause-stage c = stage_with c.args.self.now c.in-Some.place c.answer_at.new.node c.requires.stage c.in_ok-answer.ensures.node

pub returns-clause-answers : goal.returns-clause-answers
returns-clause-answers c = λ played plays.
    has_answered c.args.self.now c.deref.result.now c.in-Some.place c.index_mut.result.now c.answer_at.new.node c.in_ok-answer.answer played c.args.reply.now
    (chars c.as_str.result.now) c.deref.ensures.value c.in-Some.ensures c.as_str.ensures.chars c.index_mut.ensures.value
    (λ config stood stands. c.in_ok-answer.ensures.answers config stood c.args.reply.now stands (sym c.as_str-from.ensures.chars)
    (sym (c.deref-2.ensures.value ∙ c.inner.ensures))) plays
