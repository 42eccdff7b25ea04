use Rattle.std.proofs.Common.{◌≡◌, drop}
use Rattle.std.specs.List.{list_any}
use Rattle.sds_router.specs.Routes.{leads_to}
use Rattle.sds_router.proofs.routes.is_for.Given as goal

-- the routes that are left answer for all
abbrev pub invariant-loop-route : goal.invariant-loop-route
invariant-loop-route l = list_any (leads_to l.config l.change l.peer) (drop l.route-index l.routes)
    ≡ list_any (leads_to l.config l.change l.peer) l.routes
