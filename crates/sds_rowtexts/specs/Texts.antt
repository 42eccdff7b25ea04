-- The texts of a row, read for its table, or the first rule that they break.
use Rattle.std.specs.Prelude.{ℕ, Bool, ◌&&◌, if◌then◌else◌, List, map, option_map, Result, Ok, Err}
use Rattle.std.specs.List.{filter_map, list_any}
use Rattle.sds_value.specs.declared.kind.Binary.{Binary}
use Rattle.sds_value.specs.declared.kind.Value.{Value}
use Rattle.sds_value.specs.declared.row.DocRow.{DocRow}
use Rattle.sds_value.specs.declared.table.ColumnDef.{ColumnDef}
use Rattle.sds_value.specs.declared.table.TableDef.{TableDef}
use Rattle.sds_types.specs.declared.rule.Rule.{Rule}
use Rattle.sds_types.specs.declared.rule.Rule.TheVariants.{UnknownColumn, MissingKey}
use Rattle.sds_types.specs.declared.rule.Rule.TheVariants.{BadValue, TooLong}
use Rattle.sds_trade.specs.rules.DocRows.{are_columns, counts_fit, field_in, key_fields, tells_key}
use Rattle.sds_trade.specs.rules.LoadRows.{named_value, values_in}
use Rattle.sds_trade.specs.rules.Places.{column_place}
use Rattle.sds_trade.specs.rules.TextRules.{is_bad, is_too_long, refusals_in}
use Rattle.sds_rowtexts.specs.Named.{key_names_of}
use Rattle.sds_rowtexts.specs.declared.texts.Texts.{Texts}

-- the names of a row are those of columns, none twice in its list, with as many fields
abbrev pub names_are : List ColumnDef → DocRow → Bool
names_are columns row =
    are_columns columns row.keys && (are_columns columns row.columns && counts_fit row)

-- the key that a row tells, in the order of its table's key
abbrev pub key_told : TableDef → Binary → DocRow → List Value
key_told def form row =
    map (λ (name : List ℕ).
    named_value form def.columns (name, field_in (key_fields row) name)) (key_names_of def)

-- the texts of a row as values
abbrev pub texts_of : TableDef → Binary → DocRow → Texts
texts_of def form row = record {
  key = key_told def form row;
  columns = filter_map (column_place def.columns) row.columns;
  new = values_in form def.columns row.columns row.new;
  old = option_map (values_in form def.columns row.columns) row.old;
}

-- the texts, where none of them is malformed or out of range and none too long
abbrev pub read_or_rule : Bool → Bool → Texts → Result Texts Rule
read_or_rule bad long texts =
    if bad then Err BadValue else if long then Err TooLong else Ok texts

abbrev pub read_texts : TableDef → Binary → DocRow → Result Texts Rule
read_texts def form row = let refusals = refusals_in form def.columns row in
    read_or_rule (list_any is_bad refusals) (list_any is_too_long refusals) (texts_of def form row)

-- the same, where the names and the key are those of the table too
abbrev pub texts_or_rule : TableDef → Binary → DocRow → Result Texts Rule
texts_or_rule def form row =
    if names_are def.columns row
    then if tells_key (key_names_of def) row then read_texts def form row else Err MissingKey
    else Err UnknownColumn
