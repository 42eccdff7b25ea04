-- A node's tables: the rows that stand, each with the place of its table, ascending by table and
-- then by key. So no two rows of one table have one key.
use Rattle.std.specs.Prelude.{◌≡◌, ℕ, ◌<◌, ◌≤◌, Bool, true, false, not, ◌&&◌, ◌==◌, IsTrue, List, [], ◌∷◌, map, length, Option, None, Some, option_map, unwrap_or, slice_get}
use Rattle.std.specs.List.{All, AllPairs, find, list_any, list_all, filter_map, zip}
use Rattle.std.specs.Cmp.Lexicographic.{slice_cmp}
use Rattle.std.specs.Ordering.{is_eq, nat_cmp, ordering_then}
use Rattle.std.specs.declared.cmp.Ordering.{Ordering}
use Rattle.std.specs.declared.cmp.Ordering.TheVariants.{Less}
use Rattle.sds_value.specs.declared.kind.Value.{Value}
use Rattle.sds_value.specs.declared.kind.Value.TheVariants.{Null}
use Rattle.sds_value.specs.declared.table.ColumnDef.{ColumnDef}
use Rattle.sds_value.specs.declared.table.TableDef.{TableDef}
use Rattle.sds_value.specs.Values.{fits, value_order}
use Rattle.sds_types.specs.Limits.{most_rows}
use Rattle.sds_types.specs.declared.row.Row.{Row}
use Rattle.sds_types.specs.declared.row.Key.{Key}
use Rattle.sds_types.specs.declared.row.TableRow.{TableRow}
use Rattle.sds_trade.specs.rules.Places.{columns_at, key_places}

abbrev pub is_null : Value → Bool
is_null Null = true
is_null value = false

-- two values are one
abbrev pub same_value : Value → Value → Bool
same_value a b = is_eq (value_order a b)

-- keys go by their first value, where it is one by their second, and so on
abbrev pub key_order : Key → Key → Ordering
key_order a b = slice_cmp value_order a.0 b.0

abbrev pub same_key : Key → Key → Bool
same_key a b = is_eq (key_order a b)

-- the value at a place of a row
abbrev pub value_at : List Value → ℕ → Value
value_at values place = unwrap_or (slice_get values place) Null

-- the key of a row of the table at a place
abbrev pub key_of : List TableDef → ℕ → Row → Key
key_of defs table row = record { 0 = map (value_at row.0) (key_places defs table) }

-- rows go by their table's place, and rows of one table by key
abbrev pub row_order : List TableDef → TableRow → TableRow → Ordering
row_order defs a b = ordering_then (nat_cmp a.table b.table)
    (key_order (key_of defs a.table a.row) (key_of defs b.table b.row))

-- a row is the one of a table with a key
abbrev pub is_at : List TableDef → ℕ → Key → TableRow → Bool
is_at defs table key row = row.table == table && same_key (key_of defs table row.row) key

-- a row of a table with a key stands
abbrev pub has_row : List TableDef → List TableRow → ℕ → Key → Bool
has_row defs rows table key = list_any (is_at defs table key) rows

-- the row of a table with a key
abbrev pub row_at : List TableDef → List TableRow → ℕ → Key → Option Row
row_at defs rows table key =
    option_map (λ (row : TableRow). row.row) (find (is_at defs table key) rows)

-- a reference of a column with a value: the table, and the key of one value that a row of it has
abbrev pub reference_to : Option ℕ → Value → Option (ℕ × Key)
reference_to None value = None
reference_to (Some parent) value =
    elim (is_null value) [ true ↦ None | false ↦ Some (parent, record { 0 = value ∷ [] }) ]

-- the references of a row of the table at a place; null refers to nothing
abbrev pub references_of : List TableDef → ℕ → Row → List (ℕ × Key)
references_of defs table row =
    filter_map (λ (at : ColumnDef × Value). reference_to at.0.parent at.1)
    (zip (columns_at defs table) row.0)

-- each reference of a row of the table at a place is the key of a row that stands
abbrev pub finds_parents : List TableDef → List TableRow → ℕ → Row → Bool
finds_parents defs rows table row =
    list_all (λ (reference : ℕ × Key). has_row defs rows reference.0 reference.1)
    (references_of defs table row)

-- a row refers to the row of a table with a key
abbrev pub refers_to : List TableDef → ℕ → Key → TableRow → Bool
refers_to defs table key row =
    list_any (λ (reference : ℕ × Key). reference.0 == table && same_key reference.1 key)
    (references_of defs row.table row.row)

-- a column may hold a value: null where it allows null, else one of its kind, within its limits
abbrev pub may_hold : ColumnDef → Value → Bool
may_hold column value =
    elim (is_null value) [ true ↦ not column.not_null | false ↦ fits column.kind value ]

-- a row has a value for each column, and each column may hold its value
pub record IsRowOf (columns : List ColumnDef) (row : Row) : Type 0 where
  pub whole : length row.0 ≡ length columns
  pub held : All (λ (at : ColumnDef × Value). IsTrue (may_hold at.0 at.1)) (zip columns row.0)

-- the rows ascend, so that no two of one table have one key
abbrev pub Ascend : List TableDef → List TableRow → Type 0
Ascend defs rows = AllPairs (λ (a b : TableRow). row_order defs a b ≡ Less) rows

-- every reference is the key of a row that stands
abbrev pub ReferencesHold : List TableDef → List TableRow → Type 0
ReferencesHold defs rows =
    All (λ (row : TableRow). IsTrue (finds_parents defs rows row.table row.row)) rows

-- rows that are a node's tables
pub record AreTables (defs : List TableDef) (rows : List TableRow) : Type 0 where
  pub few : length rows ≤ most_rows
  pub known : All (λ (row : TableRow). row.table < length defs) rows
  pub held : All (λ (row : TableRow). IsRowOf (columns_at defs row.table) row.row) rows
  pub ascend : Ascend defs rows
  pub references : ReferencesHold defs rows
