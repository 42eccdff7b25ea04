-- The rules on a step where certain rows stand, in the order in which they are judged.
use Rattle.std.specs.Prelude.{ℕ, Bool, false, not, ◌&&◌, nat_le, List, [], ◌∷◌, length, Option}
use Rattle.std.specs.List.{find, list_any, zip}
use Rattle.std.specs.Option.{option_map_or}
use Rattle.sds_value.specs.declared.kind.Value.{Value}
use Rattle.sds_value.specs.declared.table.ColumnDef.{ColumnDef}
use Rattle.sds_value.specs.declared.table.TableDef.{TableDef}
use Rattle.sds_types.specs.Limits.{most_rows}
use Rattle.sds_types.specs.declared.row.Row.{Row}
use Rattle.sds_types.specs.declared.row.Key.{Key}
use Rattle.sds_types.specs.declared.row.RowStep.{RowStep}
use Rattle.sds_types.specs.declared.row.RowStep.TheVariants.{Insert, Update, Delete}
use Rattle.sds_types.specs.declared.row.TableRow.{TableRow}
use Rattle.sds_types.specs.declared.rule.Rule.{Rule}
use Rattle.sds_types.specs.declared.rule.Rule.TheVariants.{NullNotAllowed, DuplicateKey, RowMissing, MissingParent, HasChildren, TableFull}
use Rattle.sds_trade.specs.rules.Places.{columns_at}
use Rattle.sds_trade.specs.rules.Tables.{is_null, key_of, has_row, finds_parents, refers_to}
use Rattle.sds_trade.specs.rules.Steps.{table_of, new_row, old_key, other_rows, rows_after}

-- a row has a null in a column that doesn't allow it
abbrev pub has_null : List ColumnDef → Row → Bool
has_null columns row =
    list_any (λ (at : ColumnDef × Value). at.0.not_null && is_null at.1) (zip columns row.0)

abbrev pub puts_null : List TableDef → RowStep → Bool
puts_null defs step =
    option_map_or (has_null (columns_at defs (table_of step))) (new_row step) false

-- one of the rows that a step leaves alone has the key of the new row
abbrev pub takes_key : List TableDef → List TableRow → ℕ → Row → Bool
takes_key defs others table row = has_row defs others table (key_of defs table row)

abbrev pub doubles_key : List TableDef → List TableRow → RowStep → Bool
doubles_key defs rows step =
    option_map_or (takes_key defs (other_rows defs rows step) (table_of step)) (new_row step) false

-- the row that is to be updated or deleted doesn't stand
abbrev pub misses_row : List TableDef → List TableRow → RowStep → Bool
misses_row defs rows step =
    option_map_or (λ (key : Key). not (has_row defs rows (table_of step) key)) (old_key step) false

-- after the step the row refers to a row that doesn't stand; it may refer to itself
abbrev pub misses_parent : List TableDef → List TableRow → RowStep → Bool
misses_parent defs rows step =
    option_map_or
    (λ (row : Row). not (finds_parents defs (rows_after defs rows step) (table_of step) row))
    (new_row step) false

-- rows that the step leaves alone refer to the old key, which no row has after it
abbrev pub is_orphaning : List TableDef → List TableRow → RowStep → Key → Bool
is_orphaning defs rows step key =
    list_any (refers_to defs (table_of step) key) (other_rows defs rows step)
    && not (has_row defs (rows_after defs rows step) (table_of step) key)

abbrev pub leaves_children : List TableDef → List TableRow → RowStep → Bool
leaves_children defs rows step =
    option_map_or (is_orphaning defs rows step) (old_key step) false

-- an insert where as many rows stand as a node may have
abbrev pub overfills : List TableRow → RowStep → Bool
overfills rows (Insert table row) = nat_le most_rows (length rows)
overfills rows (Update table key row) = false
overfills rows (Delete table key) = false

-- a step breaks a rule
abbrev pub step_breaks : List TableDef → List TableRow → RowStep → Rule → Bool
step_breaks defs rows step NullNotAllowed = puts_null defs step
step_breaks defs rows step DuplicateKey = doubles_key defs rows step
step_breaks defs rows step RowMissing = misses_row defs rows step
step_breaks defs rows step MissingParent = misses_parent defs rows step
step_breaks defs rows step HasChildren = leaves_children defs rows step
step_breaks defs rows step TableFull = overfills rows step
step_breaks defs rows step other = false

-- the rules on steps, in their order
abbrev pub step_rules : List Rule
step_rules = NullNotAllowed ∷ (DuplicateKey ∷ (RowMissing
    ∷ (MissingParent ∷ (HasChildren ∷ (TableFull ∷ [])))))

-- the first rule that a step breaks, and none where it breaks none
abbrev pub broken_rule : List TableDef → List TableRow → RowStep → Option Rule
broken_rule defs rows step = find (step_breaks defs rows step) step_rules
