-- The one configuration that a rehearsal has until the configuration file is read: the groups corp and store, a link by
-- which corp pushes, one channel, one table of numbered texts, and its trigger and router from corp to store.
-- And what a node begins with under it: one peer, and nothing else.
use Rattle.std.specs.Prelude.{ℕ, true, false, List, [], ◌∷◌, None, codes}
use Rattle.sds_value.specs.declared.kind.Kind.TheVariants.{Integer, Varchar}
use Rattle.sds_value.specs.declared.row.Peer.{Peer}
use Rattle.sds_value.specs.declared.table.ColumnDef.{ColumnDef}
use Rattle.sds_value.specs.declared.table.TableDef.{TableDef}
use Rattle.sds_types.specs.declared.link.Action.TheVariants.{P}
use Rattle.sds_types.specs.declared.channel.Algorithm.TheVariants as algorithm
use Rattle.sds_types.specs.declared.channel.ChannelDef.{ChannelDef}
use Rattle.sds_types.specs.declared.config.Config.{Config}
use Rattle.sds_types.specs.declared.link.LinkDef.{LinkDef}
use Rattle.sds_types.specs.declared.router.RouterDef.{RouterDef}
use Rattle.sds_types.specs.declared.router.RouterExpression.TheVariants.{Everything}
use Rattle.sds_types.specs.declared.router.RouterKind.TheVariants as router
use Rattle.sds_types.specs.declared.trigger.TriggerDef.{TriggerDef}
use Rattle.sds_types.specs.declared.trigger.TriggerRouterDef.{TriggerRouterDef}
use Rattle.sds_types.specs.declared.counts.Counts.{Counts}
use Rattle.sds_types.specs.declared.peer.KeptPeer.{KeptPeer}
use Rattle.sds_first_spec.specs.Acts.{State}

abbrev pub pair_table : TableDef
pair_table = record {
  name = codes "pair";
  columns = record { name = codes "id"; kind = Integer; not_null = true; parent = None }
      ∷ record { name = codes "text"; kind = Varchar 40; not_null = false; parent = None } ∷ [];
  key = 0 ∷ [];
}

abbrev pub data_channel : ChannelDef
data_channel = record { id = codes "data"; processing_order = 1; max_batch_size = 10000; max_batch_to_send = 10000; batch_algorithm = algorithm.Default }

abbrev pub pair_trigger : TriggerDef
pair_trigger = record {
  id = codes "pair";
  source_table = 0;
  channel = 0;
  sync_on_insert = true;
  sync_on_update = true;
  sync_on_delete = true;
  sync_on_incoming_batch = false;
}

abbrev pub down_router : RouterDef
down_router = record { id = codes "down"; source_group = 0; target_group = 1; kind = router.Default; expression = []; parsed = Everything }

abbrev pub one : Config
one = record {
  groups = codes "corp" ∷ (codes "store" ∷ []);
  links = record { source = 0; target = 1; action = P } ∷ [];
  channels = data_channel ∷ [];
  tables = pair_table ∷ [];
  triggers = pair_trigger ∷ [];
  routers = down_router ∷ [];
  trigger_routers = record { trigger = 0; router = 0; enabled = true; ping_back_enabled = false } ∷ [];
  transforms = [];
  conflicts = [];
}

-- a node with these peers, before its first act
abbrev pub begun : Peer → List KeptPeer → State
begun me peers = record {
  me = me;
  counts = record { acts = 0; last_change = 0; last_batch = 0; last_tx = 0; routed = 0 };
  peers = peers;
  writers = [];
  tables = [];
  changes = [];
  batches = [];
  lanes = [];
}

-- a node that another is a peer of
abbrev pub paired : Peer → Peer → State
paired me other = begun me (record { peer = other; token = []; child = false } ∷ [])
