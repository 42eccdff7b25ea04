-- A row as texts: its names and fields, and the key that it tells. An own write's row and a batch's
-- row are judged alike.
use Rattle.std.specs.Prelude.{ℕ, Bool, true, false, not, ◌&&◌, ◌==◌, List, [], ◌∷◌, length, is_some, unwrap_or}
use Rattle.std.specs.List.{find, list_all, zip}
use Rattle.std.specs.Option.{option_map_or}
use Rattle.std.specs.Str.{bytes_eq}
use Rattle.sds_value.specs.declared.row.DocRow.{DocRow}
use Rattle.sds_value.specs.declared.row.Event.TheVariants.{Insert, Update, Delete}
use Rattle.sds_value.specs.declared.row.Field.{Field}
use Rattle.sds_value.specs.declared.row.Field.TheVariants.{Null, Text}
use Rattle.sds_value.specs.declared.table.ColumnDef.{ColumnDef}
use Rattle.sds_value.specs.declared.table.TableDef.{TableDef}
use Rattle.sds_trade.specs.rules.Places.{table_place, columns_at, column_named, is_among}

-- the field of a name among names with their fields: that of the first, or null where none has it
abbrev pub field_in : List (List ℕ × Field) → List ℕ → Field
field_in fields name =
    option_map_or (λ (at : List ℕ × Field). at.1)
    (find (λ (at : List ℕ × Field). bytes_eq at.0 name) fields) Null

abbrev pub is_null_field : Field → Bool
is_null_field Null = true
is_null_field (Text text) = false

-- the place of a row's table; past the last table where the name is unknown
abbrev pub doc_table : List TableDef → DocRow → ℕ
doc_table defs doc = unwrap_or (table_place defs doc.table) (length defs)

abbrev pub doc_columns : List TableDef → DocRow → List ColumnDef
doc_columns defs doc = columns_at defs (doc_table defs doc)

-- each name is a column's, and none stands twice
abbrev pub are_columns : List ColumnDef → List (List ℕ) → Bool
are_columns columns [] = true
are_columns columns (name ∷ names) =
    is_some (column_named columns name) && (not (is_among names name) && are_columns columns names)

-- how many values, and how many key values, the row has by its event
abbrev pub new_count : DocRow → ℕ
new_count doc =
    elim doc.event [ Insert ↦ length doc.columns | Update ↦ length doc.columns | Delete ↦ 0 ]

abbrev pub key_count : DocRow → ℕ
key_count doc =
    elim doc.event [ Insert ↦ 0 | Update ↦ length doc.keys | Delete ↦ length doc.keys ]

-- there are as many fields as names
abbrev pub counts_fit : DocRow → Bool
counts_fit doc = length doc.new == new_count doc
    && (length doc.key == key_count doc
    && option_map_or (λ (old : List Field). length old == length doc.columns) doc.old true)

abbrev pub names_fit : List TableDef → DocRow → Bool
names_fit defs doc = are_columns (doc_columns defs doc) doc.keys
    && (are_columns (doc_columns defs doc) doc.columns && counts_fit doc)

-- the names with the fields that tell the key: of an insert the new ones, else the old key's
abbrev pub key_fields : DocRow → List (List ℕ × Field)
key_fields doc = elim doc.event [
  | Insert ↦ zip doc.columns doc.new
  | Update ↦ zip doc.keys doc.key
  | Delete ↦ zip doc.keys doc.key
]

-- the row names the columns of the table's key, in whatever order, and gives each of them a value
abbrev pub names_key : List (List ℕ) → DocRow → Bool
names_key names doc = length doc.keys == length names
    && list_all (λ (name : List ℕ). is_among doc.keys name) names

abbrev pub tells_key : List (List ℕ) → DocRow → Bool
tells_key names doc = names_key names doc
    && list_all (λ (name : List ℕ). not (is_null_field (field_in (key_fields doc) name))) names
