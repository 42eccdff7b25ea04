use Rattle.std.proofs.Common.{List, sym, subst}
use Rattle.std.specs.Str.{chars}
use Rattle.sds_outside.specs.declared.mem_keeper.MemKeeper.{MemKeeper}
use Rattle.sds_node.specs.declared.node.Node.{Node}
use Rattle.sds_stage.specs.Placed.{IsPlaced}
use Rattle.sds_stage.proofs.Messaged.{has_delivered}
use Rattle.sds_stage.proofs.Staged.{stage_with}
use Rattle.sds_stage.proofs.stage.Stage.deliver_to.Goals as goal

pub returns-in_err-answer-clause-stage : goal.returns-in_err-answer-clause-stage
returns-in_err-answer-clause-stage c = stage_with c.args.self.now c.in-Some.place c.deliver_at.new.node c.requires.stage c.in_err-answer.ensures.node

pub returns-clause-stage : goal.returns-clause-stage
returns-clause-stage c = stage_with c.args.self.now c.in-Some.place c.deliver_at.new.node c.requires.stage c.in_ok-answer.ensures.node

pub returns-clause-delivers : goal.returns-clause-delivers
returns-clause-delivers c = λ played message plays from_is to_is.
    has_delivered c.args.self.now c.deref.result.now (chars c.args.from.now) (chars c.args.to.now) c.in-Some.place c.requires.sent.place c.index_mut.result.now
    c.deliver_at.new.node c.args.text.now c.args.mentions.now c.in_ok-answer.answer played message c.requires.stage c.requires.few c.deref.ensures.value
    (subst (λ (l : List (Node MemKeeper)). IsPlaced (chars c.args.from.now) l c.requires.sent.place) (sym c.deref.ensures.value) c.requires.sent.placed) c.in-Some.ensures c.index_mut.ensures.value c.in_ok-answer.ensures.takes plays from_is to_is
