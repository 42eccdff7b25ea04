-- A shop and its stores: items go down from corp, stock and sales up from the stores, and the stock
-- that a store counts is added to corp's.
use Rattle.std.specs.Prelude.{ℕ, ℤ, pos, false, List, [], ◌∷◌, None, Some, codes}
use Rattle.sds_value.specs.declared.kind.Kind.TheVariants.{Integer, Decimal, Varchar}
use Rattle.sds_value.specs.declared.kind.Value.TheVariants as value
use Rattle.sds_value.specs.declared.row.Peer.{Peer}
use Rattle.sds_value.specs.declared.table.ColumnDef.{ColumnDef}
use Rattle.sds_value.specs.declared.table.TableDef.{TableDef}
use Rattle.sds_types.specs.declared.config.Config.{Config}
use Rattle.sds_types.specs.declared.link.Action.TheVariants.{P, W}
use Rattle.sds_types.specs.declared.row.TableRow.{TableRow}
use Rattle.sds_types.specs.declared.transform.ColumnPolicy.TheVariants.{Implied}
use Rattle.sds_types.specs.declared.transform.DeleteAction.TheVariants.{DelRow}
use Rattle.sds_types.specs.declared.transform.Point.TheVariants.{Load}
use Rattle.sds_types.specs.declared.transform.TransformDef.{TransformDef}
use Rattle.sds_types.specs.declared.transform_column.ColumnExpression.TheVariants as says
use Rattle.sds_types.specs.declared.transform_column.ColumnKind.TheVariants as column
use Rattle.sds_types.specs.declared.transform_column.TransformColumn.{TransformColumn}
use Rattle.sds_types.specs.declared.way.Way.{Way}
use Rattle.sds_trade.specs.worked.Entries.{column_def, optional, table_def, channel_def, trigger_def, default_router, join_of, peer_of, table_row, number}

abbrev pub item_columns : List ColumnDef
item_columns = column_def (codes "id") Integer None
    ∷ (column_def (codes "name") (Varchar 40) None
    ∷ (optional (column_def (codes "price") (Decimal 2) None) ∷ []))

abbrev pub stock_columns : List ColumnDef
stock_columns = column_def (codes "item_id") Integer (Some 0)
    ∷ (optional (column_def (codes "qty") Integer None) ∷ [])

abbrev pub sale_columns : List ColumnDef
sale_columns = column_def (codes "id") (Varchar 20) None
    ∷ (column_def (codes "store") (Varchar 10) None
    ∷ (column_def (codes "item_id") Integer (Some 0)
    ∷ (column_def (codes "qty") Integer None ∷ [])))

abbrev pub shop_tables : List TableDef
shop_tables = table_def (codes "item") item_columns
    ∷ (table_def (codes "stock") stock_columns ∷ (table_def (codes "sale") sale_columns ∷ []))

-- the transform that adds stock, so many times
abbrev pub sum_column : List ℕ → ℤ → TransformColumn
sum_column expression factor = record {
  target = codes "qty";
  source = codes "qty";
  pk = false;
  include_on = codes "*";
  kind = column.Additive;
  expression = expression;
  parsed = says.Additive factor;
}

abbrev pub sum_transform : List ℕ → ℤ → TransformDef
sum_transform expression factor = record {
  id = codes "sum";
  source_group = 1;
  target_group = 0;
  point = Load;
  source_table = codes "stock";
  target_table = codes "stock";
  delete_action = DelRow;
  column_policy = Implied;
  columns = sum_column expression factor ∷ [];
}

-- the configuration, whose stock is added so many times; once is the shop's
abbrev pub shop_adding : List ℕ → ℤ → Config
shop_adding expression factor = record {
  groups = codes "corp" ∷ (codes "store" ∷ []);
  links = record { source = 0; target = 1; action = W }
      ∷ (record { source = 1; target = 0; action = P } ∷ []);
  channels = channel_def (codes "item") 10
      ∷ (channel_def (codes "stock") 20 ∷ (channel_def (codes "sale") 30 ∷ []));
  tables = shop_tables;
  triggers = trigger_def (codes "item") 0
      ∷ (trigger_def (codes "stock") 1 ∷ (trigger_def (codes "sale") 2 ∷ []));
  routers = default_router (codes "down") 0 1 ∷ (default_router (codes "up") 1 0 ∷ []);
  trigger_routers = join_of 0 0 ∷ (join_of 1 1 ∷ (join_of 2 1 ∷ []));
  transforms = sum_transform expression factor ∷ [];
  conflicts = [];
}

abbrev pub shop : Config
shop = shop_adding [] (pos 1)

-- the nodes
abbrev pub corp : Peer
corp = peer_of (codes "corp") (codes "corp") (codes "corp")

abbrev pub way_up : Way
way_up = record {
  source = codes "s1";
  source_group = codes "store";
  target = codes "corp";
  target_group = codes "corp";
}

-- rows that stand
abbrev pub pen : TableRow
pen = table_row 0 (number 1 ∷ (value.Text (codes "Pen") ∷ (value.Decimal (pos 250) ∷ [])))

abbrev pub stock_of : ℕ → ℕ → TableRow
stock_of item qty = table_row 1 (number item ∷ (number qty ∷ []))

abbrev pub sale_a : TableRow
sale_a = table_row 2 (value.Text (codes "a")
    ∷ (value.Text (codes "001") ∷ (number 1 ∷ (number 2 ∷ []))))
