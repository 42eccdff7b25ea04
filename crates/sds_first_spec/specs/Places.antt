-- What a place in one of the configuration's lists stands for.
use Rattle.std.specs.Prelude.{ℕ, ◌+◌, if◌then◌else◌, List, [], ◌∷◌, None, Some, unwrap_or, slice_get}
use Rattle.std.specs.List.{filter_map}
use Rattle.std.specs.Option.{option_map_or}
use Rattle.std.specs.Str.{bytes_eq}
use Rattle.sds_value.specs.declared.table.ColumnDef.{ColumnDef}
use Rattle.sds_value.specs.declared.table.TableDef.{TableDef}
use Rattle.sds_types.specs.declared.config.Config.{Config}

-- the name of the group at a place
abbrev pub group_name : Config → ℕ → List ℕ
group_name config place = unwrap_or (slice_get config.groups place) []

-- the name of the table at a place
abbrev pub table_name : Config → ℕ → List ℕ
table_name config place = option_map_or (λ (def : TableDef). def.name) (slice_get config.tables place) []

-- the columns of the table at a place
abbrev pub columns_of : Config → ℕ → List ColumnDef
columns_of config place = option_map_or (λ (def : TableDef). def.columns) (slice_get config.tables place) []

-- the places of the key columns of the table at a place
abbrev pub key_places : Config → ℕ → List ℕ
key_places config place = option_map_or (λ (def : TableDef). def.key) (slice_get config.tables place) []

-- the names of the key columns of the table at a place
abbrev pub key_names : Config → ℕ → List (List ℕ)
key_names config place =
    filter_map (λ (key : ℕ). option_map_or (λ (column : ColumnDef). Some column.name) (slice_get (columns_of config place) key) None) (key_places config place)

-- the place of the table of this name, past the last where there is none
abbrev pub table_place : List ℕ → List TableDef → ℕ
table_place name [] = 0
table_place name (def ∷ defs) = if bytes_eq def.name name then 0 else table_place name defs + 1

-- the place of the column of this name, past the last where there is none
abbrev pub column_place : List ℕ → List ColumnDef → ℕ
column_place name [] = 0
column_place name (column ∷ columns) = if bytes_eq column.name name then 0 else column_place name columns + 1
