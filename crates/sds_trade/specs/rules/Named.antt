-- Which peers a change at a node is for.
use Rattle.std.specs.Prelude.{ℕ, Bool, false, not, ◌&&◌, ◌||◌, ◌==◌, List, map, slice_get}
use Rattle.std.specs.List.{enumerate_from, filter, list_any}
use Rattle.std.specs.Option.{option_map_or}
use Rattle.std.specs.Str.{bytes_eq}
use Rattle.sds_value.specs.declared.row.Peer.{Peer}
use Rattle.sds_types.specs.declared.config.Config.{Config}
use Rattle.sds_types.specs.declared.router.RouterDef.{RouterDef}
use Rattle.sds_types.specs.declared.row.Change.{Change}
use Rattle.sds_types.specs.declared.row.TableRow.{TableRow}
use Rattle.sds_types.specs.declared.trigger.TriggerDef.{TriggerDef}
use Rattle.sds_types.specs.declared.trigger.TriggerRouterDef.{TriggerRouterDef}
use Rattle.sds_trade.specs.rules.Places.{group_name}
use Rattle.sds_trade.specs.rules.Routers.{names_peer}

-- a router leads from the node's group to the peer's
abbrev pub leads_between : Config → Peer → Peer → RouterDef → Bool
leads_between config me peer router =
    bytes_eq (group_name config.groups router.source_group) me.group
    && bytes_eq (group_name config.groups router.target_group) peer.group

-- a router at a node names a peer for a change, where certain rows stand
abbrev pub names : Config → Peer → List TableRow → Change → Peer → RouterDef → Bool
names config me rows change peer router =
    leads_between config me peer router && names_peer config.tables rows change peer router.parsed

-- the trigger stands on the table of a change
abbrev pub is_on : Change → TriggerDef → Bool
is_on change trigger = trigger.source_table == change.table

-- a change came from a peer
abbrev pub came_from : Change → Peer → Bool
came_from change peer =
    option_map_or (λ (source : List ℕ). bytes_eq source peer.id) change.source false

-- a trigger-router sends a change to a peer: it is enabled, of the change's trigger, its router
-- names the peer, and the change doesn't go back to where it came from unless it may
abbrev pub sends_to : Config → Peer → List TableRow → Change → Peer → TriggerRouterDef → Bool
sends_to config me rows change peer join = join.enabled
    && (option_map_or (is_on change) (slice_get config.triggers join.trigger) false
    && (option_map_or (names config me rows change peer)
    (slice_get config.routers join.router) false
    && (join.ping_back_enabled || not (came_from change peer))))

-- a change at a node is for a peer: some trigger-router sends it there, and the peer isn't the node
abbrev pub is_named : Config → Peer → List TableRow → Change → Peer → Bool
is_named config me rows change peer = not (bytes_eq peer.id me.id)
    && list_any (sends_to config me rows change peer) config.trigger_routers

-- the places, ascending, of the peers that a change is for
abbrev pub targets_of : Config → Peer → List TableRow → List Peer → Change → List ℕ
targets_of config me rows peers change = map (λ (at : ℕ × Peer). at.0)
    (filter (λ (at : ℕ × Peer). is_named config me rows change at.1) (enumerate_from 0 peers))
