-- Which peers a change goes to. The default router is built; the other kinds come later and name nobody yet.
use Rattle.std.specs.Prelude.{ℕ, Bool, true, false, ◌&&◌, ◌||◌, ◌==◌, not, List, Option, None, Some, slice_get}
use Rattle.std.specs.List.{list_any}
use Rattle.std.specs.Option.{option_map_or}
use Rattle.std.specs.Str.{bytes_eq}
use Rattle.sds_value.specs.declared.row.Peer.{Peer}
use Rattle.sds_types.specs.declared.config.Config.{Config}
use Rattle.sds_types.specs.declared.router.RouterDef.{RouterDef}
use Rattle.sds_types.specs.declared.router.RouterKind.{RouterKind}
use Rattle.sds_types.specs.declared.router.RouterKind.TheVariants.{Default, Column, LookupTable, Subselect}
use Rattle.sds_types.specs.declared.trigger.TriggerDef.{TriggerDef}
use Rattle.sds_types.specs.declared.trigger.TriggerRouterDef.{TriggerRouterDef}
use Rattle.sds_types.specs.declared.row.Change.{Change}
use Rattle.sds_types.specs.declared.row.TableRow.{TableRow}
use Rattle.sds_first_spec.specs.Places.{group_name}

-- whether a router's own test names a peer for a change, on these tables
abbrev pub passes : RouterKind → List TableRow → Change → Peer → Bool
passes Default rows change peer = true
passes Column rows change peer = false
passes LookupTable rows change peer = false
passes Subselect rows change peer = false

-- whether a router leads from my group to the peer's, and its test holds
abbrev pub names : Config → Peer → List TableRow → Change → Peer → RouterDef → Bool
names config me rows change peer router =
    bytes_eq me.group (group_name config router.source_group)
    && (bytes_eq peer.group (group_name config router.target_group) && passes router.kind rows change peer)

-- whether a trigger stands on the table of a change
abbrev pub is_on : Change → TriggerDef → Bool
is_on change trigger = trigger.source_table == change.table

-- whether a change came from a peer
abbrev pub came_from : Option (List ℕ) → Peer → Bool
came_from None peer = false
came_from (Some source) peer = bytes_eq source peer.id

-- whether this trigger-router sends a change to a peer
abbrev pub joins_to : Config → Peer → List TableRow → Change → Peer → TriggerRouterDef → Bool
joins_to config me rows change peer join =
    join.enabled
    && (option_map_or (is_on change) (slice_get config.triggers join.trigger) false
    && (option_map_or (names config me rows change peer) (slice_get config.routers join.router) false
    && (join.ping_back_enabled || not (came_from change.source peer))))

-- whether a change at a node goes to a peer: never to the node itself, and back to where it came from only where ping-back is enabled
abbrev pub is_named : Config → Peer → List TableRow → Change → Peer → Bool
is_named config me rows change peer = not (bytes_eq peer.id me.id) && list_any (joins_to config me rows change peer) config.trigger_routers
