-- Own writes: what their rows do to the tables, and the first row that breaks a rule. Inserts are built.
-- The rules on a row by itself are told by `is_own_insert`: a call asks that it holds, and refusals for its sake come later.
use Rattle.std.specs.Prelude.{ℕ, ◌+◌, Bool, true, false, ◌&&◌, not, nat_lt, List, [], ◌∷◌, length, Option, None, Some}
use Rattle.std.specs.Result.{result_unwrap_or}
use Rattle.std.specs.Prelude.{is_ok}
use Rattle.sds_value.specs.declared.kind.Kind.{Kind}
use Rattle.sds_value.specs.declared.kind.Binary.TheVariants.{Base64}
use Rattle.sds_value.specs.declared.kind.Value.{Value}
use Rattle.sds_value.specs.declared.kind.Value.TheVariants as value
use Rattle.sds_value.specs.declared.row.Event.{Event}
use Rattle.sds_value.specs.declared.row.Event.TheVariants as event
use Rattle.sds_value.specs.declared.row.Field.{Field}
use Rattle.sds_value.specs.declared.row.Field.TheVariants.{Null, Text}
use Rattle.sds_value.specs.declared.table.ColumnDef.{ColumnDef}
use Rattle.sds_value.specs.Values.{value_of}
use Rattle.sds_types.specs.declared.config.Config.{Config}
use Rattle.sds_first_spec.specs.declared.row.Done.{Done}
use Rattle.sds_types.specs.declared.row.RowStep.{RowStep}
use Rattle.sds_types.specs.declared.row.RowStep.TheVariants.{Insert}
use Rattle.sds_types.specs.declared.row.TableRow.{TableRow}
use Rattle.sds_types.specs.declared.tx_row.TxRow.{TxRow}
use Rattle.sds_types.specs.declared.rule.Rule.{Rule}
use Rattle.sds_first_spec.specs.Places.{columns_of, table_place}
use Rattle.sds_first_spec.specs.Tables.{broken, after}

-- the value of a field under the kind of its column
abbrev pub field_value : Kind → Field → Value
field_value kind Null = value.Null
field_value kind (Text text) = result_unwrap_or (value_of kind Base64 text) value.Null

-- the values of fields under the kinds of their columns
abbrev pub row_values : List ColumnDef → List Field → List Value
row_values [] fields = []
row_values columns [] = []
row_values (column ∷ columns) (field ∷ fields) = field_value column.kind field ∷ row_values columns fields

-- whether a column may have this field: null where it allows null, else a text that reads under its kind
abbrev pub is_allowed : ColumnDef → Field → Bool
is_allowed column Null = not column.not_null
is_allowed column (Text text) = is_ok (value_of column.kind Base64 text)

-- whether these columns may have these fields, one for each
abbrev pub are_allowed : List ColumnDef → List Field → Bool
are_allowed [] [] = true
are_allowed (column ∷ columns) (field ∷ fields) = is_allowed column field && are_allowed columns fields
are_allowed columns fields = false

abbrev pub is_insert : Event → Bool
is_insert event.Insert = true
is_insert event.Update = false
is_insert event.Delete = false

-- whether an own row is an insert of a known table, with a value that it may have for each column; its key may stand already
abbrev pub is_own_insert : Config → TxRow → Bool
is_own_insert config row =
    is_insert row.event && (nat_lt (table_place row.table config.tables) (length config.tables)
    && are_allowed (columns_of config (table_place row.table config.tables)) row.fields)

-- what an own insert does
abbrev pub step_of : Config → TxRow → RowStep
step_of config row = let table = table_place row.table config.tables in Insert table (record { 0 = row_values (columns_of config table) row.fields })

-- what the rows of an own write do, one after another
abbrev pub steps_of : Config → List TxRow → List Done
steps_of config [] = []
steps_of config (row ∷ rows) = record { step = step_of config row; old = None } ∷ steps_of config rows

-- the rows after these steps
abbrev pub after_all : Config → List TableRow → List Done → List TableRow
after_all config rows [] = rows
after_all config rows (done ∷ dones) = after_all config (after config rows done.step) dones

-- the number of a row and the rule that it breaks, or what its followers break
abbrev pub by_rule : Option Rule → ℕ → Option (ℕ × Rule) → Option (ℕ × Rule)
by_rule (Some rule) n later = Some (n, rule)
by_rule None n later = later

-- the first of these own rows, numbered from n on, that breaks a rule where those before it stand
abbrev pub first_broken : ℕ → Config → List TableRow → List TxRow → Option (ℕ × Rule)
first_broken n config kept [] = None
first_broken n config kept (row ∷ rows) =
    by_rule (broken config kept (step_of config row)) n (first_broken (n + 1) config (after config kept (step_of config row)) rows)
