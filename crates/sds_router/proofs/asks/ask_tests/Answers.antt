use Rattle.std.proofs.Common.{◌∙◌, sym}
use Rattle.std.specs.List.{list_any}
use Rattle.sds_trade.specs.rules.Routers.{test_holds}
use Rattle.sds_router.specs.Asks.{is_met}
use Rattle.sds_router.proofs.Lists.{any_no, any_yes}
use Rattle.sds_router.proofs.asks.ask_tests.Goals as goal

pub returns-in-Everyone : goal.returns-in-Everyone
returns-in-Everyone c = λ peer.
    let holds = test_holds c.args.defs.now c.args.change.now peer in
    c.everyone.ensures peer
    ∙ any_yes (is_met peer) holds c.loop-test.asks.items c.args.tests.now c.loop-test.test-index
    c.test-item.result (list_any holds c.args.tests.now) c.loop-test-test.true c.test-item.is
    (c.loop-test.invariant peer) (sym (rw c.in-Everyone.is at (c.in_ok-question.ensures peer)))

pub loop-test-preserved-in-Nobody : goal.loop-test-preserved-in-Nobody
loop-test-preserved-in-Nobody c = λ peer.
    let holds = test_holds c.args.defs.now c.args.change.now peer in
    any_no (is_met peer) holds c.loop-test.asks.items c.args.tests.now c.loop-test.test-index
    c.test-item.result (list_any holds c.args.tests.now) c.loop-test-test.true c.test-item.is
    (c.loop-test.invariant peer) (sym (rw c.in-Nobody.is at (c.in_ok-question.ensures peer)))
