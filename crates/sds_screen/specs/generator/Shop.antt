-- The configuration of the generator: a head office sends items down to stores, which send stock and
-- sales up; what stores say of stock is added up at the head office.
use Rattle.std.specs.Prelude.{ℕ, pos, true, false, Bool, List, [], ◌∷◌, Option, None, Some, codes}
use Rattle.sds_value.specs.declared.kind.Kind.{Kind}
use Rattle.sds_value.specs.declared.kind.Kind.TheVariants.{Integer, Decimal, Varchar}
use Rattle.sds_value.specs.declared.table.ColumnDef.{ColumnDef}
use Rattle.sds_value.specs.declared.table.TableDef.{TableDef}
use Rattle.sds_types.specs.declared.channel.Algorithm.TheVariants as algorithm
use Rattle.sds_types.specs.declared.channel.ChannelDef.{ChannelDef}
use Rattle.sds_types.specs.declared.config.Config.{Config}
use Rattle.sds_types.specs.declared.link.Action.TheVariants.{P, W}
use Rattle.sds_types.specs.declared.router.RouterDef.{RouterDef}
use Rattle.sds_types.specs.declared.router.RouterExpression.TheVariants.{Everything}
use Rattle.sds_types.specs.declared.router.RouterKind.TheVariants as router
use Rattle.sds_types.specs.declared.transform.ColumnPolicy.TheVariants.{Implied}
use Rattle.sds_types.specs.declared.transform.DeleteAction.TheVariants.{DelRow}
use Rattle.sds_types.specs.declared.transform.Point.TheVariants.{Load}
use Rattle.sds_types.specs.declared.transform.TransformDef.{TransformDef}
use Rattle.sds_types.specs.declared.transform_column.ColumnExpression.TheVariants as says
use Rattle.sds_types.specs.declared.transform_column.ColumnKind.TheVariants as kind
use Rattle.sds_types.specs.declared.transform_column.TransformColumn.{TransformColumn}
use Rattle.sds_types.specs.declared.trigger.TriggerDef.{TriggerDef}
use Rattle.sds_types.specs.declared.trigger.TriggerRouterDef.{TriggerRouterDef}

-- a column, and whether it allows null; a reference is to the first table
abbrev pub column : List ℕ → Kind → Bool → Option ℕ → ColumnDef
column name of_kind not_null parent =
    record { name = name; kind = of_kind; not_null = not_null; parent = parent }

abbrev pub table_of_key : List ℕ → List ColumnDef → TableDef
table_of_key name columns = record { name = name; columns = columns; key = 0 ∷ [] }

abbrev pub item_table : TableDef
item_table = table_of_key (codes "item") (column (codes "id") Integer true None
    ∷ (column (codes "name") (Varchar 40) true None
    ∷ (column (codes "price") (Decimal 2) false None ∷ [])))

abbrev pub stock_table : TableDef
stock_table = table_of_key (codes "stock") (column (codes "item_id") Integer true (Some 0)
    ∷ (column (codes "qty") Integer false None ∷ []))

abbrev pub sale_table : TableDef
sale_table = table_of_key (codes "sale") (column (codes "id") (Varchar 20) true None
    ∷ (column (codes "store") (Varchar 10) true None
    ∷ (column (codes "item_id") Integer true (Some 0)
    ∷ (column (codes "qty") Integer true None ∷ []))))

abbrev pub channel_def : List ℕ → ℕ → ChannelDef
channel_def name order = record {
  id = name;
  processing_order = order;
  max_batch_size = 100;
  max_batch_to_send = 10;
  batch_algorithm = algorithm.Default;
}

-- a trigger on the table of a place captures all events, but none that a batch brings
abbrev pub trigger_def : List ℕ → ℕ → TriggerDef
trigger_def name place = record {
  id = name;
  source_table = place;
  channel = place;
  sync_on_insert = true;
  sync_on_update = true;
  sync_on_delete = true;
  sync_on_incoming_batch = false;
}

abbrev pub router_def : List ℕ → ℕ → ℕ → RouterDef
router_def name from to = record {
  id = name;
  source_group = from;
  target_group = to;
  kind = router.Default;
  expression = [];
  parsed = Everything;
}

abbrev pub join_def : ℕ → ℕ → TriggerRouterDef
join_def trigger place =
    record { trigger = trigger; router = place; enabled = true; ping_back_enabled = false }

abbrev pub sum_column : TransformColumn
sum_column = record {
  target = codes "qty";
  source = codes "qty";
  pk = false;
  include_on = codes "*";
  kind = kind.Additive;
  expression = [];
  parsed = says.Additive (pos 1);
}

abbrev pub sum_transform : TransformDef
sum_transform = record {
  id = codes "sum";
  source_group = 1;
  target_group = 0;
  point = Load;
  source_table = codes "stock";
  target_table = codes "stock";
  delete_action = DelRow;
  column_policy = Implied;
  columns = sum_column ∷ [];
}

abbrev pub shop : Config
shop = record {
  groups = codes "corp" ∷ (codes "store" ∷ []);
  links = record { source = 0; target = 1; action = W }
      ∷ (record { source = 1; target = 0; action = P } ∷ []);
  channels = channel_def (codes "item") 10
      ∷ (channel_def (codes "stock") 20 ∷ (channel_def (codes "sale") 30 ∷ []));
  tables = item_table ∷ (stock_table ∷ (sale_table ∷ []));
  triggers = trigger_def (codes "item") 0
      ∷ (trigger_def (codes "stock") 1 ∷ (trigger_def (codes "sale") 2 ∷ []));
  routers = router_def (codes "down") 0 1 ∷ (router_def (codes "up") 1 0 ∷ []);
  trigger_routers = join_def 0 0 ∷ (join_def 1 1 ∷ (join_def 2 1 ∷ []));
  transforms = sum_transform ∷ [];
  conflicts = [];
}
