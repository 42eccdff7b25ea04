use Rattle.std.proofs.Common.{◌≡◌, List, subst, arith, vec_len}
use Rattle.sds_types.specs.declared.ack.Ack.{Ack}
use Rattle.sds_first_spec.specs.declared.batch.Sent.{Sent}
use Rattle.sds_first_world.proofs.Pushing.{ReceiveSays, AnswerSays, is_none, is_some, pushed_none, pushed_all}
use Rattle.sds_first_world.proofs.stage.Stage.push.Goals as goal

pub returns-then-is_empty : goal.returns-then-is_empty
returns-then-is_empty c =
    let none : vec_len c.in_ok-sents.sents ≡ 0 = is_none c.is_empty.result (vec_len c.in_ok-sents.sents) c.is_empty.ensures c.if-is_empty.true in
    pushed_none c.args.from.now c.args.to.now c.args.self.now c.send.new.self c.args.out.now.items c.send.new.out.items c.in_ok-sents.sents.items c.in_ok-sents.ensures (omega (arith, none))

pub returns : goal.returns
returns c =
    pushed_all c.args.from.now c.args.to.now c.args.self.now c.send.new.self c.receive.new.self c.answer.new.self c.args.out.now.items c.send.new.out.items c.receive.new.out.items c.answer.new.out.items
    c.in_ok-sents.sents.items c.in_ok-acks.acks.items c.in_ok-sents.ensures
    (λ none. is_some c.is_empty.result (vec_len c.in_ok-sents.sents) c.is_empty.ensures c.if-is_empty.false (omega (arith, none)))
    (subst (λ (l : List Sent). ReceiveSays c.args.from.now c.args.to.now c.send.new.self c.receive.new.self c.send.new.out.items c.receive.new.out.items l c.in_ok-acks.acks.items) c.deref.ensures.value c.in_ok-acks.ensures)
    (subst (λ (l : List Ack). AnswerSays c.args.from.now c.args.to.now c.receive.new.self c.answer.new.self c.receive.new.out.items c.answer.new.out.items l) c.deref-2.ensures.value c.in_ok-answer.ensures)
