-- Entries of configurations, and rows, for the worked cases.
use Rattle.std.specs.Prelude.{ℕ, pos, true, false, List, [], ◌∷◌, Option}
use Rattle.sds_value.specs.declared.kind.Kind.{Kind}
use Rattle.sds_value.specs.declared.kind.Value.{Value}
use Rattle.sds_value.specs.declared.kind.Value.TheVariants as value
use Rattle.sds_value.specs.declared.row.Peer.{Peer}
use Rattle.sds_value.specs.declared.table.ColumnDef.{ColumnDef}
use Rattle.sds_value.specs.declared.table.TableDef.{TableDef}
use Rattle.sds_types.specs.declared.channel.Algorithm.TheVariants as algorithm
use Rattle.sds_types.specs.declared.channel.ChannelDef.{ChannelDef}
use Rattle.sds_types.specs.declared.router.RouterDef.{RouterDef}
use Rattle.sds_types.specs.declared.router.RouterExpression.TheVariants.{Everything}
use Rattle.sds_types.specs.declared.router.RouterKind.TheVariants as router
use Rattle.sds_types.specs.declared.row.TableRow.{TableRow}
use Rattle.sds_types.specs.declared.trigger.TriggerDef.{TriggerDef}
use Rattle.sds_types.specs.declared.trigger.TriggerRouterDef.{TriggerRouterDef}

-- a column, by its name, its kind, whether it is not null, and the table that it refers to
abbrev pub column_def : List ℕ → Kind → Option ℕ → ColumnDef
column_def name kind parent = record { name = name; kind = kind; not_null = true; parent = parent }

abbrev pub optional : ColumnDef → ColumnDef
optional column = record column { not_null = false }

abbrev pub table_def : List ℕ → List ColumnDef → TableDef
table_def name columns = record { name = name; columns = columns; key = 0 ∷ [] }

abbrev pub channel_def : List ℕ → ℕ → ChannelDef
channel_def id order = record {
  id = id;
  processing_order = order;
  max_batch_size = 100;
  max_batch_to_send = 10;
  batch_algorithm = algorithm.Default;
}

-- the trigger of a table whose changes go in the channel at the same place
abbrev pub trigger_def : List ℕ → ℕ → TriggerDef
trigger_def id place = record {
  id = id;
  source_table = place;
  channel = place;
  sync_on_insert = true;
  sync_on_update = true;
  sync_on_delete = true;
  sync_on_incoming_batch = false;
}

abbrev pub default_router : List ℕ → ℕ → ℕ → RouterDef
default_router id source target = record {
  id = id;
  source_group = source;
  target_group = target;
  kind = router.Default;
  expression = [];
  parsed = Everything;
}

abbrev pub join_of : ℕ → ℕ → TriggerRouterDef
join_of trigger router =
    record { trigger = trigger; router = router; enabled = true; ping_back_enabled = false }

abbrev pub peer_of : List ℕ → List ℕ → List ℕ → Peer
peer_of id group external = record { id = id; group = group; external = external }

-- a row that stands
abbrev pub table_row : ℕ → List Value → TableRow
table_row table values = record { table = table; row = record { 0 = values } }

abbrev pub number : ℕ → Value
number n = value.Integer (pos n)
