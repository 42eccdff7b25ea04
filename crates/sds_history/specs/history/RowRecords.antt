-- The records of rows and of changes.
use Rattle.std.specs.Prelude.{ℕ, List, [], ◌∷◌, ◌++◌, map, codes, Option, slice_get}
use Rattle.std.specs.List.{zip}
use Rattle.std.specs.Option.{option_map_or}
use Rattle.std.specs.Str.{encode_utf8_all}
use Rattle.sds_line.specs.Written.{written_line}
use Rattle.sds_value.specs.declared.kind.Value.{Value}
use Rattle.sds_value.specs.declared.row.Event.{Event}
use Rattle.sds_value.specs.declared.row.Event.TheVariants.{Insert, Update, Delete}
use Rattle.sds_value.specs.declared.row.Field.{Field}
use Rattle.sds_value.specs.declared.row.Field.TheVariants.{Null, Text}
use Rattle.sds_value.specs.declared.table.ColumnDef.{ColumnDef}
use Rattle.sds_types.specs.declared.config.Config.{Config}
use Rattle.sds_types.specs.declared.row.Change.{Change}
use Rattle.sds_types.specs.declared.row.Row.{Row}
use Rattle.sds_types.specs.declared.row.TableRow.{TableRow}
use Rattle.sds_trade.specs.rules.Places.{columns_at, key_places, table_name}
use Rattle.sds_trade.specs.rules.RoutedValues.{field_of}
use Rattle.sds_trade.specs.rules.Tables.{key_of}
use Rattle.sds_history.specs.history.Lanes.{channel_name}
use Rattle.sds_history.specs.history.Records.{Record, record_of, number_field, id_text}

-- a row: its key are the key's values as a line
abbrev pub row_fields : List ColumnDef → List Value → List Field
row_fields columns values =
    map (λ (at : ColumnDef × Value). field_of at.0.kind at.1) (zip columns values)

abbrev pub key_column : List ColumnDef → ℕ → List ColumnDef
key_column columns place =
    option_map_or (λ (column : ColumnDef). column ∷ []) (slice_get columns place) []

abbrev pub key_columns : List ColumnDef → List ℕ → List ColumnDef
key_columns columns [] = []
key_columns columns (place ∷ places) = key_column columns place ++ key_columns columns places

abbrev pub row_key : Config → TableRow → List ℕ
row_key config row = written_line (row_fields
    (key_columns (columns_at config.tables row.table) (key_places config.tables row.table))
    (key_of config.tables row.table row.row).0)

abbrev pub row_record : Config → TableRow → Record
row_record config row = record_of (codes "t/"
    ++ (encode_utf8_all (table_name config.tables row.table)
    ++ (codes "/" ++ row_key config row)))
    (row_fields (columns_at config.tables row.table) row.row.0)

-- a change: its new values where it leaves a row, then its old values where it took one
abbrev pub event_word : Event → List ℕ
event_word Insert = codes "I"
event_word Update = codes "U"
event_word Delete = codes "D"

abbrev pub side_fields : List ColumnDef → Option Row → List Field
side_fields columns side = option_map_or (λ (row : Row). row_fields columns row.0) side []

abbrev pub change_record : Config → Change → Record
change_record config change = let columns = columns_at config.tables change.table in
    record_of (codes "d/" ++ id_text change.id) (number_field change.tx
    ∷ (Text (table_name config.tables change.table) ∷ (Text (event_word change.event)
    ∷ (Text (channel_name config change.channel)
    ∷ (option_map_or (λ (source : List ℕ). Text source) change.source Null
    ∷ (side_fields columns change.new ++ side_fields columns change.old))))))
