-- Rows as values: a row of texts that breaks no rule on texts, read for its table.
use Rattle.std.specs.Prelude.{ℕ, ℤ, ◌*ℤ◌, ◌-ℤ◌, pos, ◌==◌, List, [], map, Option, None, Some, option_map, Result, Ok, Err}
use Rattle.std.specs.List.{filter_map, find, zip}
use Rattle.std.specs.Option.{option_map_or}
use Rattle.std.specs.Result.{result_unwrap_or}
use Rattle.sds_value.specs.declared.kind.Binary.{Binary}
use Rattle.sds_value.specs.declared.kind.Value.{Value}
use Rattle.sds_value.specs.declared.kind.Value.TheVariants as value
use Rattle.sds_value.specs.declared.row.DocRow.{DocRow}
use Rattle.sds_value.specs.declared.row.Event.TheVariants.{Insert, Update, Delete}
use Rattle.sds_value.specs.declared.row.Field.{Field}
use Rattle.sds_value.specs.declared.row.Field.TheVariants.{Null, Text}
use Rattle.sds_value.specs.declared.table.ColumnDef.{ColumnDef}
use Rattle.sds_value.specs.declared.table.TableDef.{TableDef}
use Rattle.sds_value.specs.Values.{value_of}
use Rattle.sds_types.specs.declared.load_row.Addend.{Addend}
use Rattle.sds_types.specs.declared.load_row.LoadRow.{LoadRow}
use Rattle.sds_types.specs.declared.rule.Rule.{Rule}
use Rattle.sds_types.specs.declared.transform.Add.{Add}
use Rattle.sds_trade.specs.rules.Places.{key_names, column_named, column_place}
use Rattle.sds_trade.specs.rules.DocRows.{field_in, doc_table, doc_columns, key_fields}
use Rattle.sds_trade.specs.rules.TextRules.{broken_text_rule}

-- the value of a field under its column's kind, where its text reads
abbrev pub value_in : Binary → ColumnDef → Field → Value
value_in form column Null = value.Null
value_in form column (Text text) = result_unwrap_or (value_of column.kind form text) value.Null

-- the value of a column's name with its field
abbrev pub named_value : Binary → List ColumnDef → List ℕ × Field → Value
named_value form columns at =
    option_map_or (λ (column : ColumnDef). value_in form column at.1)
    (column_named columns at.0) value.Null

abbrev pub values_in : Binary → List ColumnDef → List (List ℕ) → List Field → List Value
values_in form columns names fields = map (named_value form columns) (zip names fields)

-- the key that a row tells, in the order of the table's key
abbrev pub told_key : List TableDef → Binary → DocRow → List Value
told_key defs form doc =
    map (λ (name : List ℕ).
    named_value form (doc_columns defs doc) (name, field_in (key_fields doc) name))
    (key_names defs (doc_table defs doc))

-- the value that a list of places with their values has at a place, and null where it has none
abbrev pub value_for : List (ℕ × Value) → ℕ → Value
value_for values place =
    option_map_or (λ (at : ℕ × Value). at.1)
    (find (λ (at : ℕ × Value). at.0 == place) values) value.Null

-- a number in units of its column's last digit; null counts as 0
abbrev pub units_of : Value → ℤ
units_of (value.Integer number) = number
units_of (value.Decimal units) = units
units_of other = pos 0

-- a column's new number less its old one
abbrev pub difference : LoadRow → ℕ → List Value → ℤ
difference row column old =
    units_of (value_for (zip row.columns row.new) column)
    -ℤ units_of (value_for (zip row.columns old) column)

-- the old values that it is reckoned from: of an insert none, so that the old number is 0
abbrev pub old_values : LoadRow → Option (List Value)
old_values row = elim row.event [ Insert ↦ Some [] | Update ↦ row.old | Delete ↦ row.old ]

-- what is added to a column: so many times that difference, and none where old values aren't given
abbrev pub addend_of : LoadRow → Add → Addend
addend_of row add = record {
  column = add.column;
  add = option_map (λ (old : List Value). add.multiplier *ℤ difference row add.column old)
      (old_values row);
}

-- the columns, values and key of a row; `number` is that of the document's row that it comes from
abbrev pub plain_row : List TableDef → Binary → ℕ → DocRow → LoadRow
plain_row defs form number doc = let columns = doc_columns defs doc in record {
  row = number;
  table = doc_table defs doc;
  event = doc.event;
  key = record { 0 = told_key defs form doc };
  columns = filter_map (column_place columns) doc.columns;
  new = values_in form columns doc.columns doc.new;
  old = option_map (values_in form columns doc.columns) doc.old;
  adds = [];
}

-- the row with what is added to its columns
abbrev pub with_adds : LoadRow → List Add → LoadRow
with_adds row adds = record row { adds = map (addend_of row) adds }

abbrev pub by_rule : Option Rule → LoadRow → Result LoadRow Rule
by_rule None row = Ok row
by_rule (Some rule) row = Err rule

-- a row read for its table, or the first rule that its texts break
abbrev pub row_of : List TableDef → Binary → ℕ → DocRow → List Add → Result LoadRow Rule
row_of defs form number doc adds =
    by_rule (broken_text_rule defs form doc) (with_adds (plain_row defs form number doc) adds)
