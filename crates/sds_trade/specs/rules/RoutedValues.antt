-- The values of a change that routers look at, as printed texts, and those of a table's rows.
use Rattle.std.specs.Prelude.{ℕ, Bool, true, false, List, Option, None, Some, option_and_then, slice_get}
use Rattle.std.specs.Option.{option_map_or}
use Rattle.std.specs.Str.{bytes_eq, chars}
use Rattle.sds_value.specs.declared.kind.Binary.TheVariants.{Base64}
use Rattle.sds_value.specs.declared.kind.Kind.{Kind}
use Rattle.sds_value.specs.declared.kind.Value.{Value}
use Rattle.sds_value.specs.declared.row.Event.TheVariants.{Insert, Update, Delete}
use Rattle.sds_value.specs.declared.row.Field.{Field}
use Rattle.sds_value.specs.declared.row.Field.TheVariants as field
use Rattle.sds_value.specs.declared.table.ColumnDef.{ColumnDef}
use Rattle.sds_value.specs.declared.table.TableDef.{TableDef}
use Rattle.sds_value.specs.Values.{printed}
use Rattle.sds_types.specs.declared.row.Change.{Change}
use Rattle.sds_types.specs.declared.row.Row.{Row}
use Rattle.sds_trade.specs.rules.Places.{columns_at, column_place}
use Rattle.sds_trade.specs.rules.Tables.{is_null, value_at}

-- the printed text of a value of a kind, and none of null
abbrev pub text_of : Kind → Value → Option (List ℕ)
text_of kind value =
    elim (is_null value) [ true ↦ None | false ↦ Some (chars (printed kind Base64 value)) ]

-- the printed text at a place of a row
abbrev pub text_at : List ColumnDef → Row → ℕ → Option (List ℕ)
text_at columns row place =
    option_and_then (λ (column : ColumnDef). text_of column.kind (value_at row.0 place))
    (slice_get columns place)

-- the printed text in the column of a name; none where it is null or there is no such column
abbrev pub text_in : List ColumnDef → List ℕ → Row → Option (List ℕ)
text_in columns name row = option_and_then (text_at columns row) (column_place columns name)

-- the row that a change leaves, or of a delete the row that it took away
abbrev pub routed_row : Change → Option Row
routed_row change =
    elim change.event [ Insert ↦ change.new | Update ↦ change.new | Delete ↦ change.old ]

-- the routed row's value in the column of a name, and its old value, which an insert lacks
abbrev pub current_text : List TableDef → Change → List ℕ → Option (List ℕ)
current_text defs change name =
    option_and_then (text_in (columns_at defs change.table) name) (routed_row change)

abbrev pub old_text : List TableDef → Change → List ℕ → Option (List ℕ)
old_text defs change name =
    option_and_then (text_in (columns_at defs change.table) name) change.old

-- two texts that are there are one; null is no text
abbrev pub is_text : Option (List ℕ) → List ℕ → Bool
is_text here text = option_map_or (bytes_eq text) here false

abbrev pub are_one_text : Option (List ℕ) → Option (List ℕ) → Bool
are_one_text here there = option_map_or (is_text here) there false

-- the field that a value is written as
abbrev pub field_of : Kind → Value → Field
field_of kind value =
    option_map_or (λ (text : List ℕ). field.Text text) (text_of kind value) field.Null
