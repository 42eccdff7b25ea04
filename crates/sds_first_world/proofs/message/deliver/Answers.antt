use Rattle.sds_first_world.proofs.Loading.{go_on, stop, all_done}
use Rattle.sds_first_world.proofs.message.deliver.Goals as goal

pub returns-then-not-branch : goal.returns-then-not-branch
returns-then-not-branch c = λ h whole stands.
    stop c.args.from.now c.args.sents.now c.loop-sent.sent-index c.sent-item.result c.loop-sent.node c.load.new.node c.loop-sent.acks.items c.in_ok-load.field-0 c.loop-sent-test.true c.sent-item.is
    c.in_ok-load.ensures.loaded c.in_ok-load.ensures.stands c.if-not-branch.true h whole (c.loop-sent.invariant h whole stands)

pub loop-sent-preserved : goal.loop-sent-preserved
loop-sent-preserved c = λ h whole stands.
    go_on c.args.from.now c.args.sents.now c.loop-sent.sent-index c.sent-item.result c.loop-sent.node c.load.new.node c.loop-sent.acks.items c.push.new.self.items c.in_ok-load.field-0
    c.loop-sent-test.true c.sent-item.is c.in_ok-load.ensures.loaded c.in_ok-load.ensures.stands c.if-not-branch.false c.in_ok-push.ensures.items h whole (c.loop-sent.invariant h whole stands)

pub returns : goal.returns
returns c = λ h whole stands. all_done c.args.from.now c.args.sents.now c.loop-sent.sent-index c.loop-sent.node c.loop-sent.acks.items c.loop-sent-test.false h (c.loop-sent.invariant h whole stands)
