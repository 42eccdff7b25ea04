use Rattle.std.proofs.Common.{◌∙◌, false}
use Rattle.std.specs.List.{list_any}
use Rattle.sds_trade.specs.rules.Named.{sends_to}
use Rattle.sds_router.specs.Routes.{leads_to}
use Rattle.sds_router.proofs.Lists.{any_copied}
use Rattle.sds_router.proofs.routes.routes_of.Goals as goal

pub loop-join-preserved : goal.loop-join-preserved
loop-join-preserved g c = λ peer.
    let sends = sends_to c.args.config.now c.args.me.now (g.T.StandingRows.rows c.args.tables.now)
    c.args.change.now peer in
    rw c.in_ok-push.ensures.items
    (any_copied (leads_to c.args.config.now c.args.change.now peer) sends c.loop-join.routes.items
    c.in-Some.route c.args.config.now.trigger_routers c.deref-join-items.result.now
    c.loop-join.join-index
    (record { trigger = 0; router = 0; enabled = false; ping_back_enabled = false })
    (list_any sends c.args.config.now.trigger_routers)
    (c.deref-join-items.ensures.value ∙ c.inner.ensures) c.loop-join-test.true
    (c.loop-join.invariant peer) (rw c.in-Some.is at (c.in_ok-route.ensures peer)))
