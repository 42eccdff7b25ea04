-- The rules on rows as texts, in the order in which they are judged.
use Rattle.std.specs.Prelude.{ℕ, Bool, true, false, not, List, [], ◌∷◌, ◌++◌, Option, None, is_some, option_and_then}
use Rattle.std.specs.List.{find, list_any, filter_map, zip}
use Rattle.std.specs.Option.{option_map_or}
use Rattle.std.specs.Result.{result_err}
use Rattle.sds_value.specs.declared.kind.Binary.{Binary}
use Rattle.sds_value.specs.declared.refusal.ValueRefusal.{ValueRefusal}
use Rattle.sds_value.specs.declared.refusal.ValueRefusal.TheVariants as refusal
use Rattle.sds_value.specs.declared.row.DocRow.{DocRow}
use Rattle.sds_value.specs.declared.row.Field.{Field}
use Rattle.sds_value.specs.declared.row.Field.TheVariants.{Null, Text}
use Rattle.sds_value.specs.declared.table.ColumnDef.{ColumnDef}
use Rattle.sds_value.specs.declared.table.TableDef.{TableDef}
use Rattle.sds_value.specs.Values.{value_of}
use Rattle.sds_types.specs.declared.rule.Rule.{Rule}
use Rattle.sds_types.specs.declared.rule.Rule.TheVariants.{UnknownTable, UnknownColumn, MissingKey, BadValue, TooLong}
use Rattle.sds_trade.specs.rules.Places.{table_place, key_names, column_named}
use Rattle.sds_trade.specs.rules.DocRows.{doc_table, doc_columns, names_fit, tells_key}

-- every name with its field: of the key, of the new values and of the old ones
abbrev pub all_fields : DocRow → List (List ℕ × Field)
all_fields doc = zip doc.keys doc.key
    ++ (zip doc.columns doc.new ++ option_map_or (zip doc.columns) doc.old [])

-- why the text of a field doesn't read under its column's kind, if it doesn't
abbrev pub text_refusal : Binary → ColumnDef → Field → Option ValueRefusal
text_refusal form column Null = None
text_refusal form column (Text text) = result_err (value_of column.kind form text)

abbrev pub refusal_in : Binary → List ColumnDef → List ℕ × Field → Option ValueRefusal
refusal_in form columns at =
    option_and_then (λ (column : ColumnDef). text_refusal form column at.1)
    (column_named columns at.0)

abbrev pub refusals_in : Binary → List ColumnDef → DocRow → List ValueRefusal
refusals_in form columns doc = filter_map (refusal_in form columns) (all_fields doc)

abbrev pub is_too_long : ValueRefusal → Bool
is_too_long refusal.TooLong = true
is_too_long other = false

abbrev pub is_bad : ValueRefusal → Bool
is_bad why = not (is_too_long why)

-- a row as texts breaks a rule
abbrev pub text_breaks : List TableDef → Binary → DocRow → Rule → Bool
text_breaks defs form doc UnknownTable = not (is_some (table_place defs doc.table))
text_breaks defs form doc UnknownColumn = not (names_fit defs doc)
text_breaks defs form doc MissingKey = not (tells_key (key_names defs (doc_table defs doc)) doc)
text_breaks defs form doc BadValue =
    list_any is_bad (refusals_in form (doc_columns defs doc) doc)
text_breaks defs form doc TooLong =
    list_any is_too_long (refusals_in form (doc_columns defs doc) doc)
text_breaks defs form doc other = false

-- the rules on rows as texts, in their order, and the first that a row breaks
abbrev pub text_rules : List Rule
text_rules = UnknownTable ∷ (UnknownColumn ∷ (MissingKey ∷ (BadValue ∷ (TooLong ∷ []))))

abbrev pub broken_text_rule : List TableDef → Binary → DocRow → Option Rule
broken_text_rule defs form doc = find (text_breaks defs form doc) text_rules
