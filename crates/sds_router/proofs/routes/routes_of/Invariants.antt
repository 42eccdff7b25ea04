use Rattle.std.proofs.Common.{◌≡◌, ◌||◌, drop}
use Rattle.std.specs.List.{list_any}
use Rattle.sds_value.specs.declared.row.Peer.{Peer}
use Rattle.sds_trade.specs.rules.Named.{sends_to}
use Rattle.sds_router.specs.Routes.{leads_to}
use Rattle.sds_router.proofs.routes.routes_of.Given as goal

-- the routes so far and the trigger-routers that are left are all the trigger-routers
abbrev pub invariant-loop-join : goal.invariant-loop-join
invariant-loop-join g l = (peer : Peer) →
    let sends = sends_to l.config l.me (g.T.StandingRows.rows l.tables) l.change peer in
    (list_any (leads_to l.config l.change peer) l.routes.items
    || list_any sends (drop l.join-index l.config.trigger_routers))
    ≡ list_any sends l.config.trigger_routers
