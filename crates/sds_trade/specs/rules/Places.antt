-- What stands at a place in a list of the configuration, and at which place a name stands.
use Rattle.std.specs.Prelude.{ℕ, Bool, ◌==◌, List, [], map, Option, option_and_then, unwrap_or, slice_get}
use Rattle.std.specs.List.{list_any, position}
use Rattle.std.specs.Option.{option_map_or}
use Rattle.std.specs.Str.{bytes_eq}
use Rattle.sds_value.specs.declared.table.ColumnDef.{ColumnDef}
use Rattle.sds_value.specs.declared.table.TableDef.{TableDef}

-- the columns of the table at a place
abbrev pub columns_at : List TableDef → ℕ → List ColumnDef
columns_at defs table =
    option_map_or (λ (def : TableDef). def.columns) (slice_get defs table) []

-- the places of the key columns of the table at a place, in the key's order
abbrev pub key_places : List TableDef → ℕ → List ℕ
key_places defs table =
    option_map_or (λ (def : TableDef). def.key) (slice_get defs table) []

-- the name of the table at a place
abbrev pub table_name : List TableDef → ℕ → List ℕ
table_name defs table =
    option_map_or (λ (def : TableDef). def.name) (slice_get defs table) []

-- the name of the column at a place
abbrev pub column_name : List ColumnDef → ℕ → List ℕ
column_name columns place =
    option_map_or (λ (column : ColumnDef). column.name) (slice_get columns place) []

-- the names of the key columns of the table at a place, in the key's order
abbrev pub key_names : List TableDef → ℕ → List (List ℕ)
key_names defs table = map (column_name (columns_at defs table)) (key_places defs table)

-- the place of the table of a name
abbrev pub table_place : List TableDef → List ℕ → Option ℕ
table_place defs name = position (λ (def : TableDef). bytes_eq def.name name) defs

-- the table of a name
abbrev pub table_named : List TableDef → List ℕ → Option TableDef
table_named defs name = option_and_then (slice_get defs) (table_place defs name)

-- the place of the column of a name
abbrev pub column_place : List ColumnDef → List ℕ → Option ℕ
column_place columns name = position (λ (column : ColumnDef). bytes_eq column.name name) columns

-- the column of a name
abbrev pub column_named : List ColumnDef → List ℕ → Option ColumnDef
column_named columns name = option_and_then (slice_get columns) (column_place columns name)

-- a table has a column of a name
abbrev pub has_column : TableDef → List ℕ → Bool
has_column def name = list_any (λ (column : ColumnDef). bytes_eq column.name name) def.columns

-- some table has a column of a name
abbrev pub is_a_column : List TableDef → List ℕ → Bool
is_a_column defs name = list_any (λ (def : TableDef). has_column def name) defs

-- the column at a place is one of the key's
abbrev pub is_key_place : TableDef → ℕ → Bool
is_key_place def place = list_any (λ (key : ℕ). key == place) def.key

-- one of a list of texts is this text
abbrev pub is_among : List (List ℕ) → List ℕ → Bool
is_among names name = list_any (λ (other : List ℕ). bytes_eq other name) names

-- the name of the group at a place
abbrev pub group_name : List (List ℕ) → ℕ → List ℕ
group_name groups place = unwrap_or (slice_get groups place) []
