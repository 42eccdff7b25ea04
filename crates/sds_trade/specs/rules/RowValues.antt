-- What a row of a batch, or of an own write, makes of the row that stands.
use Rattle.std.specs.Prelude.{ℕ, ℤ, ◌+ℤ◌, pos, Bool, not, ◌&&◌, ◌==◌, List, map, if◌then◌else◌, option_and_then, unwrap_or}
use Rattle.std.specs.List.{enumerate_from, find, list_all, list_any, zip}
use Rattle.sds_value.specs.declared.kind.Kind.{Kind}
use Rattle.sds_value.specs.declared.kind.Kind.TheVariants as kind
use Rattle.sds_value.specs.declared.kind.Value.{Value}
use Rattle.sds_value.specs.declared.kind.Value.TheVariants as value
use Rattle.sds_value.specs.declared.table.ColumnDef.{ColumnDef}
use Rattle.sds_value.specs.declared.table.TableDef.{TableDef}
use Rattle.sds_value.specs.Digits.{is_in_range}
use Rattle.sds_types.specs.declared.load_row.Addend.{Addend}
use Rattle.sds_types.specs.declared.load_row.LoadRow.{LoadRow}
use Rattle.sds_types.specs.declared.row.Key.{Key}
use Rattle.sds_types.specs.declared.row.Row.{Row}
use Rattle.sds_trade.specs.rules.LoadRows.{value_for, units_of}
use Rattle.sds_trade.specs.rules.Places.{columns_at, key_places}
use Rattle.sds_trade.specs.rules.Tables.{value_at}

abbrev pub lists : LoadRow → ℕ → Bool
lists row column = list_any (λ (place : ℕ). place == column) row.columns

-- a row adds to a column
abbrev pub is_added : LoadRow → ℕ → Bool
is_added row column = list_any (λ (addend : Addend). addend.column == column) row.adds

-- a row gives a column where it lists it and adds nothing to it
abbrev pub gives : LoadRow → ℕ → Bool
gives row column = lists row column && not (is_added row column)

-- the new and the old value that a row lists for a column
abbrev pub new_value : LoadRow → ℕ → Value
new_value row column = value_for (zip row.columns row.new) column

abbrev pub old_value : LoadRow → List Value → ℕ → Value
old_value row old column = value_for (zip row.columns old) column

-- SUMS. What a row adds to a column, and the sum where a value stands
abbrev pub addition_to : LoadRow → ℕ → ℤ
addition_to row column = unwrap_or (option_and_then (λ (addend : Addend). addend.add)
    (find (λ (addend : Addend). addend.column == column) row.adds)) (pos 0)

abbrev pub sum_at : LoadRow → ℕ → Value → ℤ
sum_at row column kept = units_of kept +ℤ addition_to row column

-- the sum as a value; only an INTEGER or a DECIMAL is added to
abbrev pub sum_value : Kind → ℤ → Value
sum_value (kind.Decimal digits) sum = value.Decimal sum
sum_value other sum = value.Integer sum

-- each sum on these values has 64 bits with a sign
abbrev pub sums_fit : LoadRow → List Value → Bool
sums_fit row values = list_all (λ (addend : Addend).
    is_in_range (sum_at row addend.column (value_at values addend.column))) row.adds

-- ROWS. The value at a place where a value stands: the given one, the sum, or the one that stands
abbrev pub put_value : LoadRow → (ℕ × ColumnDef) → Value → Value
put_value row at kept = if gives row at.0 then new_value row at.0
    else (if is_added row at.0 then sum_value at.1.kind (sum_at row at.0 kept) else kept)

abbrev pub put_values : List TableDef → LoadRow → List Value → Row
put_values defs row values = record {
  0 = map (λ (at : (ℕ × ColumnDef) × Value). put_value row at.0 at.1)
      (zip (enumerate_from 0 (columns_at defs row.table)) values);
}

-- the key after the step: a key column that the row doesn't give keeps its old value
abbrev pub given_or : LoadRow → ℕ × Value → Value
given_or row at = if gives row at.0 then new_value row at.0 else at.1

abbrev pub new_key : List TableDef → LoadRow → Key
new_key defs row = record { 0 = map (given_or row) (zip (key_places defs row.table) row.key.0) }

-- the values that an insert begins with: null but for its key
abbrev pub key_alone : List TableDef → LoadRow → List Value
key_alone defs row = map (λ (at : ℕ × ColumnDef).
    value_for (zip (key_places defs row.table) (new_key defs row).0) at.0)
    (enumerate_from 0 (columns_at defs row.table))

-- the row that is inserted: columns that it doesn't give are null, but for its key
abbrev pub inserted_row : List TableDef → LoadRow → Row
inserted_row defs row = put_values defs row (key_alone defs row)

-- the row that stands, updated
abbrev pub updated_row : List TableDef → LoadRow → Row → Row
updated_row defs row kept = put_values defs row kept.0
