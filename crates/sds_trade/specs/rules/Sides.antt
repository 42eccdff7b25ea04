-- The sides of a row of texts: the values after its event, and those before it.
use Rattle.std.specs.Prelude.{ℕ, List, [], map, Option, None, Some, option_map, unwrap_or, slice_get}
use Rattle.std.specs.List.{zip}
use Rattle.sds_value.specs.declared.kind.Value.{Value}
use Rattle.sds_value.specs.declared.row.DocRow.{DocRow}
use Rattle.sds_value.specs.declared.row.Field.{Field}
use Rattle.sds_value.specs.declared.row.Field.TheVariants as field
use Rattle.sds_value.specs.declared.table.ColumnDef.{ColumnDef}
use Rattle.sds_value.specs.declared.table.TableDef.{TableDef}
use Rattle.sds_types.specs.declared.row.Change.{Change}
use Rattle.sds_types.specs.declared.row.Row.{Row}
use Rattle.sds_trade.specs.rules.DocRows.{field_in}
use Rattle.sds_trade.specs.rules.Places.{columns_at, key_places, key_names, table_name}
use Rattle.sds_trade.specs.rules.RoutedValues.{field_of}

-- a side: the columns that it lists with their fields, and the fields that transforms look up in it
pub record Side : Type 0 where
  pub listed : List (List ℕ × Field)
  pub sources : List (List ℕ × Field)

-- a side that is given
abbrev pub given_side : List (List ℕ) → List Field → Side
given_side columns fields =
    record { listed = zip columns fields; sources = zip columns fields }

-- where the old values aren't given, the old side is made of the key's: all else is null
abbrev pub key_side : DocRow → Side
key_side doc = record {
  listed = map (λ (name : List ℕ). (name, field_in (zip doc.keys doc.key) name)) doc.columns;
  sources = zip doc.keys doc.key;
}

abbrev pub new_side : DocRow → Side
new_side doc = given_side doc.columns doc.new

abbrev pub old_side : DocRow → Side
old_side doc = elim doc.old [ None ↦ key_side doc | Some old ↦ given_side doc.columns old ]

-- THE ROW OF A CHANGE, as texts
abbrev pub fields_of : List ColumnDef → Row → List Field
fields_of columns row =
    map (λ (at : ColumnDef × Value). field_of at.0.kind at.1) (zip columns row.0)

abbrev pub fields_or_none : List ColumnDef → Option Row → List Field
fields_or_none columns None = []
fields_or_none columns (Some row) = fields_of columns row

abbrev pub field_at : List Field → ℕ → Field
field_at fields place = unwrap_or (slice_get fields place) field.Null

-- the fields of the key columns of the table at a place
abbrev pub key_fields_of : List TableDef → ℕ → Option Row → List Field
key_fields_of defs table None = []
key_fields_of defs table (Some row) =
    map (field_at (fields_of (columns_at defs table) row)) (key_places defs table)

-- a change without transforms: the table's key, all columns in order, and the old values of each
-- update and delete
abbrev pub doc_of_change : List TableDef → Change → DocRow
doc_of_change defs change = let columns = columns_at defs change.table in record {
  event = change.event;
  table = table_name defs change.table;
  keys = key_names defs change.table;
  columns = map (λ (column : ColumnDef). column.name) columns;
  new = fields_or_none columns change.new;
  key = key_fields_of defs change.table change.old;
  old = option_map (fields_of columns) change.old;
}
