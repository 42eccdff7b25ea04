use Rattle.std.proofs.Common.{◌≡◌, drop}
use Rattle.std.specs.List.{list_any}
use Rattle.sds_router.specs.Asks.{is_met}
use Rattle.sds_router.proofs.naming.is_one_met.Given as goal

-- the questions that are left answer for all
abbrev pub invariant-loop-ask : goal.invariant-loop-ask
invariant-loop-ask l =
    list_any (is_met l.peer) (drop l.ask-index l.asks) ≡ list_any (is_met l.peer) l.asks
