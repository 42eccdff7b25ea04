use Rattle.std.proofs.Common.{◌≡◌, ◌||◌, drop}
use Rattle.std.specs.List.{list_any}
use Rattle.sds_value.specs.declared.row.Peer.{Peer}
use Rattle.sds_trade.specs.rules.Routers.{test_holds}
use Rattle.sds_router.specs.Asks.{is_met}
use Rattle.sds_router.proofs.asks.ask_tests.Given as goal

-- what is asked so far and the tests that are left are all the tests
abbrev pub invariant-loop-test : goal.invariant-loop-test
invariant-loop-test l = (peer : Peer)
    → (list_any (is_met peer) l.asks.items
    || list_any (test_holds l.defs l.change peer) (drop l.test-index l.tests))
    ≡ list_any (test_holds l.defs l.change peer) l.tests
