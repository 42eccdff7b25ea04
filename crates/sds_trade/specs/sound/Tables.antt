-- Of a sound configuration: its tables, their columns, keys and references.
use Rattle.std.specs.Prelude.{◌≡◌, ◌≢◌, ℕ, ◌*◌, ◌<◌, ◌≤◌, true, IsTrue, List, [], ◌∷◌, length, Option, None, Some, option_map, slice_get, IfSome, IsSomeAnd}
use Rattle.std.specs.List.{All, AllPairs, sum_by, enumerate_from}
use Rattle.sds_value.specs.Names.{is_name_text}
use Rattle.sds_value.specs.declared.kind.Kind.{Kind}
use Rattle.sds_value.specs.declared.kind.Kind.TheVariants.{Integer, Decimal, Varchar, Timestamp, Varbinary}
use Rattle.sds_value.specs.declared.table.ColumnDef.{ColumnDef}
use Rattle.sds_value.specs.declared.table.TableDef.{TableDef}
use Rattle.sds_types.specs.Limits.{most_tables, most_columns, most_table_width, most_decimal_digits, most_varchar_characters, most_varbinary_bytes}

-- the size of a kind lies in its range
abbrev pub HasSize : Kind → Type 0
HasSize Integer = Unit {0}
HasSize (Decimal digits) = digits ≤ most_decimal_digits
HasSize (Varchar most) = (1 ≤ most) × (most ≤ most_varchar_characters)
HasSize Timestamp = Unit {0}
HasSize (Varbinary most) = (1 ≤ most) × (most ≤ most_varbinary_bytes)

-- the bytes that the printed text of a value takes at most
abbrev pub width_of : Kind → ℕ
width_of Integer = 20
width_of (Decimal digits) = 21
width_of (Varchar most) = 4 * most
width_of Timestamp = 29
width_of (Varbinary most) = most

-- the columns of a table: few enough, narrow enough, each by a name of its own
pub record AreColumns (columns : List ColumnDef) : Type 0 where
  pub few : length columns ≤ most_columns
  pub narrow : sum_by (λ (column : ColumnDef). width_of column.kind) columns ≤ most_table_width
  pub sized : All (λ (column : ColumnDef). HasSize column.kind) columns
  pub named : All (λ (column : ColumnDef). IsTrue (is_name_text column.name)) columns
  pub apart : AllPairs (λ (a b : ColumnDef). a.name ≢ b.name) columns

-- a column that doesn't allow null
abbrev pub IsPresent : ColumnDef → Type 0
IsPresent column = column.not_null ≡ true

-- a key: columns of the table, one or more, in the table's order, none of which allows null
pub record IsKey (columns : List ColumnDef) (key : List ℕ) : Type 0 where
  pub some : 1 ≤ length key
  pub few : length key ≤ most_columns
  pub ascends : AllPairs (λ (a b : ℕ). a < b) key
  pub within : All (λ (place : ℕ). place < length columns) key
  pub present : All (λ (place : ℕ). IsSomeAnd (slice_get columns place) IsPresent) key

-- the kind of the key of a table whose key is one column
abbrev pub single_kind : List ColumnDef → List ℕ → Option Kind
single_kind columns [] = None
single_kind columns (place ∷ []) =
    option_map (λ (column : ColumnDef). column.kind) (slice_get columns place)
single_kind columns (place ∷ (next ∷ places)) = None

-- a column of the table at a place refers to that table or an earlier one, whose key is one column
-- of the same kind
pub record Refers (defs : List TableDef) (table : ℕ) (column : ColumnDef) (parent : ℕ)
    : Type 0 where
  pub earlier : parent ≤ table
  pub alike : IsSomeAnd (slice_get defs parent)
      (λ (def : TableDef). single_kind def.columns def.key ≡ Some column.kind)

abbrev pub RefersWell : List TableDef → ℕ → ColumnDef → Type 0
RefersWell defs table column = IfSome column.parent (Refers defs table column)

-- the columns of a table with its place
abbrev pub ReferWell : List TableDef → ℕ × TableDef → Type 0
ReferWell defs at = All (RefersWell defs at.0) at.1.columns

pub record AreTableDefs (defs : List TableDef) : Type 0 where
  pub few : length defs ≤ most_tables
  pub named : All (λ (def : TableDef). IsTrue (is_name_text def.name)) defs
  pub apart : AllPairs (λ (a b : TableDef). a.name ≢ b.name) defs
  pub columns : All (λ (def : TableDef). AreColumns def.columns) defs
  pub keys : All (λ (def : TableDef). IsKey def.columns def.key) defs
  pub references : All (ReferWell defs) (enumerate_from 0 defs)
