-- The configuration of the tests: two channels and two tables.
use Rattle.std.specs.Prelude.{ℕ, List, [], ◌∷◌, None, codes}
use Rattle.sds_value.specs.declared.kind.Kind.TheVariants.{Integer, Varchar}
use Rattle.sds_value.specs.declared.table.ColumnDef.{ColumnDef}
use Rattle.sds_types.specs.declared.channel.ChannelDef.{ChannelDef}
use Rattle.sds_types.specs.declared.config.Config.{Config}
use Rattle.sds_trade.specs.worked.Entries.{channel_def, column_def, table_def}

-- a channel by its order, of which a message takes so many batches
abbrev pub channel_with : List ℕ → ℕ → ℕ → ChannelDef
channel_with id order most = record (channel_def id order) { max_batch_to_send = most }

-- a number that is the key, and a name
abbrev pub named_columns : List ColumnDef
named_columns =
    column_def (codes "id") Integer None ∷ (column_def (codes "name") (Varchar 40) None ∷ [])

abbrev pub two_channels : Config
two_channels = record {
  groups = codes "corp" ∷ (codes "store" ∷ []);
  links = [];
  channels = channel_with (codes "orders") 20 2 ∷ (channel_with (codes "stock") 10 10 ∷ []);
  tables = table_def (codes "item") named_columns ∷ (table_def (codes "shelf") named_columns ∷ []);
  triggers = [];
  routers = [];
  trigger_routers = [];
  transforms = [];
  conflicts = [];
}
