-- A node's tables: a list of rows, each with the place of its table, in which no two rows of one table have one key.
-- Of the rules on a step the one on a second row with one key is built. Those on updates and deletes that name no row, on references
-- and on full tables come later, and so do updates that give a row another key.
use Rattle.std.specs.Prelude.{ℕ, Bool, true, false, ◌&&◌, ◌||◌, ◌==◌, if◌then◌else◌, List, [], ◌∷◌, ◌++◌, map, Option, None, Some, unwrap_or, slice_get}
use Rattle.std.specs.Ordering.{int_eq}
use Rattle.std.specs.Str.{bytes_eq}
use Rattle.sds_value.specs.declared.kind.Value.{Value}
use Rattle.sds_value.specs.declared.kind.Value.TheVariants.{Null, Integer, Decimal, Text, Stamp, Bin}
use Rattle.sds_types.specs.declared.config.Config.{Config}
use Rattle.sds_types.specs.declared.row.Row.{Row}
use Rattle.sds_types.specs.declared.row.RowStep.{RowStep}
use Rattle.sds_types.specs.declared.row.RowStep.TheVariants.{Insert, Update, Delete}
use Rattle.sds_types.specs.declared.row.TableRow.{TableRow}
use Rattle.sds_types.specs.declared.rule.Rule.{Rule}
use Rattle.sds_types.specs.declared.rule.Rule.TheVariants.{DuplicateKey}
use Rattle.sds_first_spec.specs.Places.{key_places}

abbrev pub same_value : Value → Value → Bool
same_value Null Null = true
same_value (Integer a) (Integer b) = int_eq a b
same_value (Decimal a) (Decimal b) = int_eq a b
same_value (Text a) (Text b) = bytes_eq a b
same_value (Stamp day nano) (Stamp day' nano') = int_eq day day' && nano == nano'
same_value (Bin a) (Bin b) = bytes_eq a b
same_value a b = false

abbrev pub same_values : List Value → List Value → Bool
same_values [] [] = true
same_values (a ∷ as') (b ∷ bs) = same_value a b && same_values as' bs
same_values a b = false

-- the value at a place of a row
abbrev pub value_at : List Value → ℕ → Value
value_at values place = unwrap_or (slice_get values place) Null

-- the values of the key columns of a row
abbrev pub key_of : Config → ℕ → Row → List Value
key_of config table row = map (λ (place : ℕ). value_at row.0 place) (key_places config table)

-- whether this is the row of that table with that key
abbrev pub is_at : Config → ℕ → List Value → TableRow → Bool
is_at config table key kept = kept.table == table && same_values (key_of config table kept.row) key

-- whether a row of that table with that key stands
abbrev pub stands : Config → ℕ → List Value → List TableRow → Bool
stands config table key [] = false
stands config table key (kept ∷ rows) = is_at config table key kept || stands config table key rows

-- the row of that table with that key
abbrev pub row_at : Config → ℕ → List Value → List TableRow → Option Row
row_at config table key [] = None
row_at config table key (kept ∷ rows) = if is_at config table key kept then Some kept.row else row_at config table key rows

-- the rows with another in the place of the one with that key
abbrev pub replaced : Config → ℕ → List Value → Row → List TableRow → List TableRow
replaced config table key row [] = []
replaced config table key row (kept ∷ rows) =
    if is_at config table key kept then record { table = table; row = row } ∷ rows else kept ∷ replaced config table key row rows

-- the rows without the one with that key
abbrev pub removed : Config → ℕ → List Value → List TableRow → List TableRow
removed config table key [] = []
removed config table key (kept ∷ rows) = if is_at config table key kept then rows else kept ∷ removed config table key rows

-- the rule that a step breaks, if any
abbrev pub broken : Config → List TableRow → RowStep → Option Rule
broken config rows (Insert table row) = if stands config table (key_of config table row) rows then Some DuplicateKey else None
broken config rows (Update table key row) = None
broken config rows (Delete table key) = None

-- the rows after a step
abbrev pub after : Config → List TableRow → RowStep → List TableRow
after config rows (Insert table row) = rows ++ record { table = table; row = row } ∷ []
after config rows (Update table key row) = replaced config table key.0 row rows
after config rows (Delete table key) = removed config table key.0 rows
