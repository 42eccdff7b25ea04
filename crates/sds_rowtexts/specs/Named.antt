-- Values by the names of their columns, and the names of a table's key.
use Rattle.std.specs.Prelude.{ℕ, List, map}
use Rattle.std.specs.List.{find, zip}
use Rattle.std.specs.Option.{option_map_or}
use Rattle.std.specs.Str.{bytes_eq}
use Rattle.sds_value.specs.declared.row.DocRow.{DocRow}
use Rattle.sds_value.specs.declared.row.Event.TheVariants.{Insert, Update, Delete}
use Rattle.sds_value.specs.declared.kind.Value.{Value}
use Rattle.sds_value.specs.declared.kind.Value.TheVariants.{Null}
use Rattle.sds_value.specs.declared.table.TableDef.{TableDef}
use Rattle.sds_trade.specs.rules.Places.{column_name}

-- the value of a name among names with their values: that of the first, or null where none has it
abbrev pub value_named : List (List ℕ × Value) → List ℕ → Value
value_named values name =
    option_map_or (λ (at : List ℕ × Value). at.1)
    (find (λ (at : List ℕ × Value). bytes_eq at.0 name) values) Null

-- the names of the columns of a table's key, in the key's order
abbrev pub key_names_of : TableDef → List (List ℕ)
key_names_of def = map (column_name def.columns) def.key

-- the names with the values that tell the key: of an insert the new ones, else the old key's
abbrev pub key_values : DocRow → List Value → List Value → List (List ℕ × Value)
key_values row key new = elim row.event [
  | Insert ↦ zip row.columns new
  | Update ↦ zip row.keys key
  | Delete ↦ zip row.keys key
]
