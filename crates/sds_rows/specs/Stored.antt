-- What contracts see of a node's tables.
use Rattle.std.specs.Prelude.{ℕ, ◌≤◌, ◌==◌, List, map, length}
use Rattle.std.specs.List.{filter}
use Rattle.sds_value.specs.declared.table.TableDef.{TableDef}
use Rattle.sds_types.specs.Limits.{most_rows}
use Rattle.sds_types.specs.declared.row.Row.{Row}
use Rattle.sds_types.specs.declared.row.TableRow.{TableRow}
use Rattle.sds_trade.specs.rules.Tables.{Ascend}

-- the definitions of the tables, the rows in their order, and for how many more rows there is room
pub record Stored : Type 0 where
  pub defs : List TableDef
  pub rows : List TableRow
  pub spare : ℕ

-- rows in their order, and no more than a node may have
pub record AreInOrder (defs : List TableDef) (rows : List TableRow) : Type 0 where
  pub few : length rows ≤ most_rows
  pub ascend : Ascend defs rows

-- the rows of the table at a place
abbrev pub rows_in : ℕ → List TableRow → List Row
rows_in table rows =
    map (λ (row : TableRow). row.row) (filter (λ (row : TableRow). row.table == table) rows)
