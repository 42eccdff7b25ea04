-- The section `table`: the tables with their columns.
use Rattle.std.specs.Prelude.{ℕ, ◌+◌, ◌*◌, Bool, true, false, not, ◌&&◌, ◌==◌, nat_le, nat_lt, if◌then◌else◌, List, [], ◌∷◌, ◌++◌, length, map, codes, Option, Some, None, option_map, option_and_then, unwrap_or, Result, Ok, Err}
use Rattle.std.specs.List.{list_any, list_all, slice_get}
use Rattle.std.specs.Str.{bytes_eq, chars}
use Rattle.toml.specs.Data.{Items, no_items, item, Members, as_array, as_str}
use Rattle.sds_value.specs.declared.kind.Kind.{Kind}
use Rattle.sds_value.specs.declared.kind.Kind.TheVariants.{Integer, Decimal, Varchar, Timestamp, Varbinary}
use Rattle.sds_value.specs.declared.table.ColumnDef.{ColumnDef}
use Rattle.sds_value.specs.declared.table.TableDef.{TableDef}
use Rattle.sds_config.specs.declared.columns.ColumnText.{ColumnText}
use Rattle.sds_types.specs.declared.config.Config.{Config}
use Rattle.sds_types.specs.declared.config_refusal.ConfigRefusal.{ConfigRefusal}
use Rattle.sds_types.specs.declared.config_refusal.ConfigRefusal.TheVariants.{BadSetting, TooMany}
use Rattle.sds_config.specs.Refusals.{and_then}
use Rattle.sds_config.specs.Fields.{only_keys, required, typed, id_at, place_of}
use Rattle.sds_config.specs.ColumnTexts.{columns_from}

-- the texts so far and those of the items that follow, where each item is a text
abbrev pub texts_from : List (List ℕ) → Items → Option (List (List ℕ))
texts_from earlier no_items = Some earlier
texts_from earlier (item value rest) = option_and_then (λ text. texts_from (earlier ++ text ∷ []) rest) (as_str value)

-- an array of texts
abbrev pub texts_at : Members → List ℕ → List ℕ → Result (List (List ℕ)) ConfigRefusal
texts_at entry at key = and_then (required entry at key) (λ value. and_then (typed (as_array value) at key) (λ items. typed (texts_from [] items) at key))

-- two kinds are one
abbrev pub same_kind : Kind → Kind → Bool
same_kind Integer Integer = true
same_kind (Decimal s) (Decimal t) = s == t
same_kind (Varchar n) (Varchar m) = n == m
same_kind Timestamp Timestamp = true
same_kind (Varbinary n) (Varbinary m) = n == m
same_kind a b = false

-- the room that a value of a kind takes at most
abbrev pub width : Kind → ℕ
width Integer = 20
width (Decimal s) = 21
width (Varchar n) = 4 * n
width Timestamp = 29
width (Varbinary n) = n

abbrev pub widths : List ColumnText → ℕ
widths [] = 0
widths (column ∷ columns) = width column.kind + widths columns

abbrev pub has_key : List ColumnText → Bool
has_key columns = list_any (λ column. column.key) columns

-- no name stands twice
abbrev pub are_distinct : List ColumnText → Bool
are_distinct [] = true
are_distinct (column ∷ columns) = not (list_any (λ other. bytes_eq other.name column.name) columns) && are_distinct columns

-- the kind of the only key column, where there is only one
abbrev pub key_kind : List ColumnText → Option Kind
key_kind [] = None
key_kind (column ∷ columns) = if column.key then (if has_key columns then None else Some column.kind) else key_kind columns

-- the same of a table that is read
abbrev pub only_key_kind : TableDef → List ℕ → Option Kind
only_key_kind table [] = None
only_key_kind table (place ∷ []) = option_map (λ column. column.kind) (slice_get table.columns place)
only_key_kind table (place ∷ next ∷ rest) = None

abbrev pub table_key_kind : TableDef → Option Kind
table_key_kind table = only_key_kind table table.key

-- the kind of the only key column of the table that is referred to: an earlier table or the table itself
abbrev pub referred_kind : List TableDef → List ℕ → List ColumnText → List ℕ → Option Kind
referred_kind earlier id columns name = elim (place_of (λ table. table.name) earlier name) [
  | Some place ↦ option_and_then table_key_kind (slice_get earlier place)
  | None ↦ if bytes_eq id name then key_kind columns else None
]

-- a column refers to no table, or to one whose primary key is one column of its kind
abbrev pub is_kind : Kind → Option Kind → Bool
is_kind kind None = false
is_kind kind (Some other) = same_kind kind other

abbrev pub refers_well : List TableDef → List ℕ → List ColumnText → ColumnText → Bool
refers_well earlier id columns column = elim column.reference [
  | None ↦ true
  | Some name ↦ is_kind column.kind (referred_kind earlier id columns name)
]

-- what has to hold of a table's columns
abbrev pub are_sound : List TableDef → List ℕ → List ColumnText → Bool
are_sound earlier id columns = has_key columns && (nat_le (widths columns) 16000 && (are_distinct columns && list_all (refers_well earlier id columns) columns))

-- the place of the table that a sound column refers to: an earlier table, or the table itself, which comes after them
abbrev pub parent_place : List TableDef → List ℕ → ℕ
parent_place earlier name = unwrap_or (place_of (λ table. table.name) earlier name) (length earlier)

abbrev pub parent_of : List TableDef → Option (List ℕ) → Option ℕ
parent_of earlier reference = option_map (parent_place earlier) reference

abbrev pub column_of : List TableDef → ColumnText → ColumnDef
column_of earlier column = record { name = column.name; kind = column.kind; not_null = column.not_null; parent = parent_of earlier column.reference }

-- the places of the key columns, from this place on
abbrev pub key_places : ℕ → List ColumnText → List ℕ
key_places place [] = []
key_places place (column ∷ columns) = if column.key then place ∷ key_places (place + 1) columns else key_places (place + 1) columns

-- the table as a whole
abbrev pub whole_table : List TableDef → List ℕ → List ℕ → Option (List ColumnText) → Result TableDef ConfigRefusal
whole_table earlier at id None = Err (BadSetting (chars at))
whole_table earlier at id (Some columns) =
    if are_sound earlier id columns
    then (if nat_lt 64 (length columns) then Err (TooMany (chars at))
    else Ok (record { name = id; columns = map (column_of earlier) columns; key = key_places 0 columns }))
    else Err (BadSetting (chars at))

abbrev pub table_of : Config → List TableDef → Members → List ℕ → Result TableDef ConfigRefusal
table_of config earlier entry at =
    and_then (only_keys (codes "id" ∷ codes "columns" ∷ []) entry at) (λ _.
    and_then (id_at (λ table. table.name) earlier entry at (codes "id")) (λ id.
    and_then (texts_at entry at (codes "columns")) (λ texts.
    whole_table earlier at id (columns_from [] texts))))
