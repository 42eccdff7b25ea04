-- A lane leads from one node to another in one channel. What was made, acknowledged and loaded in it, and what a message holds of it.
use Rattle.std.specs.Prelude.{ℕ, ◌+◌, Bool, true, false, ◌&&◌, ◌==◌, not, if◌then◌else◌, List, [], ◌∷◌, map, filter, take, Option, None, Some, slice_get, count_by}
use Rattle.std.specs.List.{list_any, filter_map}
use Rattle.std.specs.Option.{option_map_or}
use Rattle.std.specs.Str.{bytes_eq}
use Rattle.sds_value.specs.declared.row.DocRow.{DocRow}
use Rattle.sds_value.specs.declared.row.Field.{Field}
use Rattle.sds_value.specs.declared.row.Field.TheVariants as field
use Rattle.sds_value.specs.declared.kind.Value.{Value}
use Rattle.sds_value.specs.declared.kind.Value.TheVariants.{Null}
use Rattle.sds_value.specs.declared.table.ColumnDef.{ColumnDef}
use Rattle.sds_first_spec.specs.Texts.{value_text}
use Rattle.std.specs.Str.{chars}
use Rattle.sds_types.specs.declared.channel.ChannelDef.{ChannelDef}
use Rattle.sds_types.specs.declared.config.Config.{Config}
use Rattle.sds_types.specs.declared.batch.OutBatch.{OutBatch}
use Rattle.sds_types.specs.declared.batch.Standing.{Standing}
use Rattle.sds_types.specs.declared.batch.Standing.TheVariants as standing
use Rattle.sds_types.specs.declared.row.Change.{Change}
use Rattle.sds_types.specs.declared.row.Row.{Row}
use Rattle.sds_first_spec.specs.Acts.{Act, State}
use Rattle.sds_first_spec.specs.Acts.Act.{Wrote, Routed, Loaded, Acked}
use Rattle.sds_first_spec.specs.Batches.{channel_order}
use Rattle.sds_first_spec.specs.Places.{table_name, columns_of, key_names}

abbrev pub is_ok : Standing → Bool
is_ok standing.New = false
is_ok (standing.Erred row rule) = false
is_ok standing.Acked = true

abbrev pub is_erred : Standing → Bool
is_erred standing.New = false
is_erred (standing.Erred row rule) = true
is_erred standing.Acked = false

-- a sender's batches in a lane, by number
abbrev pub made : State → List ℕ → ℕ → List OutBatch
made s to channel = filter (λ (b : OutBatch). bytes_eq b.peer to && b.channel == channel) s.batches

-- how many of them the sender knows to be loaded
abbrev pub acked : State → List ℕ → ℕ → ℕ
acked s to channel = count_by (λ (b : OutBatch). is_ok b.standing) (made s to channel)

-- how many batches of a lane the receiver has loaded
abbrev pub loaded : List ℕ → ℕ → List Act → ℕ
loaded sender channel [] = 0
loaded sender channel (Wrote writer number rows ∷ acts) = loaded sender channel acts
loaded sender channel (Routed ∷ acts) = loaded sender channel acts
loaded sender channel (Loaded from place batch rows ∷ acts) = if bytes_eq from sender && place == channel then loaded sender channel acts + 1 else loaded sender channel acts
loaded sender channel (Acked from acks ∷ acts) = loaded sender channel acts

-- batches up to the first in error, that one too
abbrev pub to_error : List OutBatch → List OutBatch
to_error [] = []
to_error (batch ∷ batches) = if is_erred batch.standing then batch ∷ [] else batch ∷ to_error batches

-- how many batches of the channel a message takes at most
abbrev pub most_to_send : Config → ℕ → ℕ
most_to_send config channel = option_map_or (λ (def : ChannelDef). def.max_batch_to_send) (slice_get config.channels channel) 0

-- the batches of a lane that the next message takes: the first that aren't known to be loaded, none behind one in error
abbrev pub offered_in : Config → State → List ℕ → ℕ → List OutBatch
offered_in config s to channel = take (most_to_send config channel) (to_error (filter (λ (b : OutBatch). not (is_ok b.standing)) (made s to channel)))

-- the channels of a message, in their order: those that are named, or all where none is
abbrev pub channels_of : Config → List ℕ → List ℕ
channels_of config [] = channel_order config
channels_of config (channel ∷ channels) = filter (λ (place : ℕ). list_any (λ (c : ℕ). c == place) (channel ∷ channels)) (channel_order config)

-- the field of a value
abbrev pub field_of : Value → Field
field_of Null = field.Null
field_of value = field.Text (chars (value_text value))

abbrev pub values_of : Option Row → List Value
values_of None = []
values_of (Some row) = row.0

-- the row by which a document carries an insert
abbrev pub doc_of : Config → Change → DocRow
doc_of config change = record {
  event = change.event;
  table = table_name config change.table;
  keys = key_names config change.table;
  columns = map (λ (column : ColumnDef). column.name) (columns_of config change.table);
  new = map field_of (values_of change.new);
  key = [];
  old = None;
}

-- the change of a number
abbrev pub change_at : ℕ → List Change → Option Change
change_at id [] = None
change_at id (change ∷ changes) = if change.id == id then Some change else change_at id changes

-- the rows of a batch
abbrev pub rows_of : Config → State → OutBatch → List DocRow
rows_of config s batch = map (doc_of config) (filter_map (λ (id : ℕ). change_at id s.changes) batch.changes)

-- the batch of a number
abbrev pub batch_at : ℕ → List OutBatch → Option OutBatch
batch_at id [] = None
batch_at id (batch ∷ batches) = if batch.id == id then Some batch else batch_at id batches

-- the rows of the batch of a number, or none where no batch has it
abbrev pub rows_at : Config → State → ℕ → List DocRow
rows_at config s id = option_map_or (rows_of config s) (batch_at id s.batches) []
