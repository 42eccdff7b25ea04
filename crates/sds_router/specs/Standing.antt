-- The rows that stand, and those of one table among them.
use Rattle.std.specs.Prelude.{ℕ, ◌==◌, List, map}
use Rattle.std.specs.List.{All, filter}
use Rattle.sds_value.specs.declared.table.TableDef.{TableDef}
use Rattle.sds_types.specs.declared.row.Row.{Row}
use Rattle.sds_types.specs.declared.row.TableRow.{TableRow}
use Rattle.sds_trade.specs.rules.Places.{columns_at}
use Rattle.sds_trade.specs.rules.Tables.{IsRowOf}

-- each row has a value for each column of its table, which may hold it
abbrev pub AreRowsOf : List TableDef → List TableRow → Type 0
AreRowsOf defs rows = All (λ (row : TableRow). IsRowOf (columns_at defs row.table) row.row) rows

-- the rows of the table at a place, in their order
abbrev pub rows_of : ℕ → List TableRow → List Row
rows_of table rows = map (λ (row : TableRow). row.row)
    (filter (λ (row : TableRow). row.table == table) rows)
