-- What loading a batch does to a node's tables: inserts without a conflict setting, which is to fall back.
-- Transforms, other events and conflict settings come later.
use Rattle.std.specs.Prelude.{ℕ, ◌+◌, Bool, ◌==◌, ◌&&◌, nat_lt, List, [], ◌∷◌, length, map, Option, None, Some, is_none, slice_set}
use Rattle.sds_value.specs.declared.kind.Value.{Value}
use Rattle.sds_value.specs.declared.kind.Value.TheVariants.{Null}
use Rattle.sds_value.specs.declared.row.DocRow.{DocRow}
use Rattle.sds_value.specs.declared.table.ColumnDef.{ColumnDef}
use Rattle.sds_types.specs.declared.config.Config.{Config}
use Rattle.sds_first_spec.specs.declared.row.Done.{Done}
use Rattle.sds_first_spec.specs.declared.row.LoadRow.{LoadRow}
use Rattle.sds_types.specs.declared.row.Row.{Row}
use Rattle.sds_types.specs.declared.row.RowStep.TheVariants.{Insert, Update}
use Rattle.sds_types.specs.declared.row.TableRow.{TableRow}
use Rattle.sds_first_spec.specs.Places.{columns_of, key_places, key_names, table_place, column_place}
use Rattle.sds_first_spec.specs.Tables.{value_at, row_at, after}
use Rattle.sds_first_spec.specs.Capture.{is_insert, are_allowed, row_values}
use Rattle.sds_first_spec.specs.Texts.{same_texts}

-- whether a document's row is an insert of every column of a table in the table's order, under the names of its key columns
abbrev pub is_whole_insert : Config → DocRow → Bool
is_whole_insert config doc = let columns = columns_of config (table_place doc.table config.tables) in
    is_insert doc.event && (nat_lt (table_place doc.table config.tables) (length config.tables)
    && (same_texts doc.columns (map (λ (column : ColumnDef). column.name) columns)
    && (are_allowed columns doc.new && (is_none doc.old
    && (same_texts doc.keys (key_names config (table_place doc.table config.tables)) && length doc.key == 0)))))

-- such a row, of this number, read for the tables of the configuration
abbrev pub read_row : Config → ℕ → DocRow → LoadRow
read_row config n doc = let table = table_place doc.table config.tables in let columns = columns_of config table in record {
  row = n;
  table = table;
  event = doc.event;
  key = record { 0 = map (λ (place : ℕ). value_at (row_values columns doc.new) place) (key_places config table) };
  columns = map (λ (name : List ℕ). column_place name columns) doc.columns;
  new = row_values columns doc.new;
  old = None;
}

-- the rows of a batch, numbered from n on
abbrev pub read_rows : Config → ℕ → List DocRow → List LoadRow
read_rows config n [] = []
read_rows config n (doc ∷ docs) = read_row config n doc ∷ read_rows config (n + 1) docs

-- a row with these values at these places
abbrev pub with_values : List ℕ → List Value → List Value → List Value
with_values [] values row = row
with_values places [] row = row
with_values (place ∷ places) (value ∷ values) row = with_values places values (slice_set row place value)

-- a row without values
abbrev pub nulls : List ColumnDef → List Value
nulls columns = map (λ (column : ColumnDef). Null) columns

-- an insert, or where a row of its key stands an update of the columns that it gives
abbrev pub insert_by : Config → LoadRow → Option Row → Done
insert_by config row None = record { step = Insert row.table (record { 0 = with_values row.columns row.new (nulls (columns_of config row.table)) }); old = None }
insert_by config row (Some kept) = record { step = Update row.table row.key (record { 0 = with_values row.columns row.new kept.0 }); old = Some kept }

-- what a batch's row does where these rows stand
abbrev pub load_step : Config → List TableRow → LoadRow → Done
load_step config kept row = insert_by config row (row_at config row.table row.key.0 kept)

-- what the rows of a batch do, one after another
abbrev pub load_steps : Config → List TableRow → List LoadRow → List Done
load_steps config kept [] = []
load_steps config kept (row ∷ rows) = load_step config kept row ∷ load_steps config (after config kept (load_step config kept row).step) rows
