-- Three tiers, whose stock goes up and down: corp, a region and its stores. What a batch brings is
-- captured again.
use Rattle.std.specs.Prelude.{Bool, true, List, [], ◌∷◌, None, codes}
use Rattle.sds_value.specs.declared.kind.Kind.TheVariants.{Integer}
use Rattle.sds_value.specs.declared.row.Peer.{Peer}
use Rattle.sds_value.specs.declared.table.TableDef.{TableDef}
use Rattle.sds_types.specs.declared.config.Config.{Config}
use Rattle.sds_types.specs.declared.link.Action.TheVariants.{P, W}
use Rattle.sds_trade.specs.worked.Entries.{column_def, optional, table_def, channel_def, trigger_def, default_router, join_of, peer_of}

abbrev pub tiers_tables : List TableDef
tiers_tables = table_def (codes "stock") (column_def (codes "item") Integer None
    ∷ (optional (column_def (codes "qty") Integer None) ∷ [])) ∷ []

-- the tiers, where changes may go back down to the store that they came from, or not
abbrev pub tiers_with : Bool → Config
tiers_with back = record {
  groups = codes "corp" ∷ (codes "region" ∷ (codes "store" ∷ []));
  links = record { source = 2; target = 1; action = P }
      ∷ (record { source = 1; target = 0; action = P }
      ∷ (record { source = 0; target = 1; action = W }
      ∷ (record { source = 1; target = 2; action = W } ∷ [])));
  channels = channel_def (codes "data") 10 ∷ [];
  tables = tiers_tables;
  triggers = record (trigger_def (codes "stock") 0) { sync_on_incoming_batch = true } ∷ [];
  routers = default_router (codes "su") 2 1
      ∷ (default_router (codes "rc") 1 0
      ∷ (default_router (codes "cr") 0 1 ∷ (default_router (codes "rs") 1 2 ∷ [])));
  trigger_routers = join_of 0 0 ∷ (join_of 0 1
      ∷ (join_of 0 2 ∷ (record (join_of 0 3) { ping_back_enabled = back } ∷ [])));
  transforms = [];
  conflicts = [];
}

abbrev pub region : Peer
region = peer_of (codes "r1") (codes "region") (codes "r1")

-- the nodes that the region exchanges batches with, by id
abbrev pub region_peers : List Peer
region_peers = peer_of (codes "corp") (codes "corp") (codes "corp")
    ∷ (peer_of (codes "s1") (codes "store") (codes "001")
    ∷ (peer_of (codes "s2") (codes "store") (codes "002") ∷ []))
