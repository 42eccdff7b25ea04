-- Where the routes of a change lead.
use Rattle.std.specs.Prelude.{Bool, not, ◌&&◌, ◌||◌, List}
use Rattle.std.specs.List.{list_any}
use Rattle.std.specs.Str.{bytes_eq}
use Rattle.sds_value.specs.declared.row.Peer.{Peer}
use Rattle.sds_types.specs.declared.config.Config.{Config}
use Rattle.sds_types.specs.declared.row.Change.{Change}
use Rattle.sds_trade.specs.rules.Named.{came_from}
use Rattle.sds_trade.specs.rules.Places.{group_name}
use Rattle.sds_router.specs.declared.routes.Route.{Route}
use Rattle.sds_router.specs.Asks.{is_named_by}

-- a route of a change leads to a peer
abbrev pub leads_to : Config → Change → Peer → Route → Bool
leads_to config change peer route =
    bytes_eq (group_name config.groups route.target_group) peer.group
    && (is_named_by peer route.naming && (route.may_return || not (came_from change peer)))

-- a change is for a peer by one of its routes
abbrev pub is_for : Config → Peer → Change → List Route → Peer → Bool
is_for config me change routes peer = not (bytes_eq peer.id me.id)
    && list_any (leads_to config change peer) routes
