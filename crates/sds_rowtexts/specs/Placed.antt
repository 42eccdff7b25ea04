-- Columns found by their names, and fields beside the places of their columns.
use Rattle.std.specs.Prelude.{ℕ, Bool, false, if◌then◌else◌, List, slice_get}
use Rattle.std.specs.Prelude.{Option, None, Some, option_and_then}
use Rattle.std.specs.List.{filter_map}
use Rattle.std.specs.Option.{option_map_or}
use Rattle.sds_value.specs.declared.kind.Binary.{Binary}
use Rattle.sds_value.specs.declared.kind.Value.{Value}
use Rattle.sds_value.specs.declared.kind.Value.TheVariants.{Null}
use Rattle.sds_value.specs.declared.refusal.ValueRefusal.{ValueRefusal}
use Rattle.sds_value.specs.declared.row.Field.{Field}
use Rattle.sds_value.specs.declared.table.ColumnDef.{ColumnDef}
use Rattle.sds_trade.specs.rules.DocRows.{are_columns}
use Rattle.sds_trade.specs.rules.LoadRows.{value_in}
use Rattle.sds_trade.specs.rules.Places.{column_place}
use Rattle.sds_trade.specs.rules.TextRules.{text_refusal}

-- the places of the columns of these names; none where a name is no column's or stands twice
abbrev pub places_of : List ColumnDef → List (List ℕ) → Option (List ℕ)
places_of columns names =
    if are_columns columns names then Some (filter_map (column_place columns) names) else None

-- the value of a field beside the place of its column
abbrev pub placed_value : Binary → List ColumnDef → ℕ × Field → Value
placed_value form columns at =
    option_map_or (λ (column : ColumnDef). value_in form column at.1)
    (slice_get columns at.0) Null

-- why the text of a field beside the place of its column doesn't read, if it doesn't
abbrev pub placed_refusal : Binary → List ColumnDef → ℕ × Field → Option ValueRefusal
placed_refusal form columns at =
    option_and_then (λ (column : ColumnDef). text_refusal form column at.1)
    (slice_get columns at.0)

-- a reason is one of a kind
abbrev pub is_one : (ValueRefusal → Bool) → Option ValueRefusal → Bool
is_one test why = option_map_or test why false

-- the text of a field beside the place of its column doesn't read for a reason of a kind
abbrev pub is_refused : (ValueRefusal → Bool) → Binary → List ColumnDef → ℕ × Field → Bool
is_refused test form columns at = is_one test (placed_refusal form columns at)
