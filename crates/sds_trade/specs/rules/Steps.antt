-- What is done to one row of the tables, and the tables after it.
use Rattle.std.specs.Prelude.{ℕ, not, List, ◌∷◌, ◌++◌, Option, None, Some}
use Rattle.std.specs.List.{filter}
use Rattle.std.specs.Ordering.{is_lt}
use Rattle.sds_value.specs.declared.row.Event.{Event}
use Rattle.sds_value.specs.declared.row.Event.TheVariants as event
use Rattle.sds_value.specs.declared.table.TableDef.{TableDef}
use Rattle.sds_types.specs.declared.row.Row.{Row}
use Rattle.sds_types.specs.declared.row.Key.{Key}
use Rattle.sds_types.specs.declared.row.RowStep.{RowStep}
use Rattle.sds_types.specs.declared.row.RowStep.TheVariants.{Insert, Update, Delete}
use Rattle.sds_types.specs.declared.row.TableRow.{TableRow}
use Rattle.sds_trade.specs.rules.Tables.{row_order, is_at}

-- the event of a step: what a batch brings as an insert may be made as an update
abbrev pub event_of : RowStep → Event
event_of (Insert table row) = event.Insert
event_of (Update table key row) = event.Update
event_of (Delete table key) = event.Delete

abbrev pub table_of : RowStep → ℕ
table_of (Insert table row) = table
table_of (Update table key row) = table
table_of (Delete table key) = table

-- the row after an insert or an update
abbrev pub new_row : RowStep → Option Row
new_row (Insert table row) = Some row
new_row (Update table key row) = Some row
new_row (Delete table key) = None

-- the key before an update or a delete
abbrev pub old_key : RowStep → Option Key
old_key (Insert table row) = None
old_key (Update table key row) = Some key
old_key (Delete table key) = Some key

-- the rows without the one of a table with a key
abbrev pub without_row : List TableDef → List TableRow → ℕ → Key → List TableRow
without_row defs rows table key = filter (λ (row : TableRow). not (is_at defs table key row)) rows

-- the rows with one more, which stands where the order of rows has it
abbrev pub with_row : List TableDef → List TableRow → TableRow → List TableRow
with_row defs rows new = filter (λ (row : TableRow). is_lt (row_order defs row new)) rows
    ++ new ∷ filter (λ (row : TableRow). is_lt (row_order defs new row)) rows

-- the rows that a step leaves alone
abbrev pub other_rows : List TableDef → List TableRow → RowStep → List TableRow
other_rows defs rows (Insert table row) = rows
other_rows defs rows (Update table key row) = without_row defs rows table key
other_rows defs rows (Delete table key) = without_row defs rows table key

-- the rows after a step: those that it leaves alone, and the new row where there is one
abbrev pub with_new : List TableDef → List TableRow → ℕ → Option Row → List TableRow
with_new defs rows table None = rows
with_new defs rows table (Some row) = with_row defs rows (record { table = table; row = row })

abbrev pub rows_after : List TableDef → List TableRow → RowStep → List TableRow
rows_after defs rows step = with_new defs (other_rows defs rows step) (table_of step) (new_row step)
