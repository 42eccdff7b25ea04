-- Rows as a person sees them.
use Rattle.std.specs.Prelude.{ℕ, ◌==◌, List, ◌++◌, codes}
use Rattle.std.specs.List.{filter, flat_map}
use Rattle.sds_line.specs.Written.{written_line}
use Rattle.sds_value.specs.declared.table.ColumnDef.{ColumnDef}
use Rattle.sds_value.specs.declared.table.TableDef.{TableDef}
use Rattle.sds_types.specs.declared.row.TableRow.{TableRow}
use Rattle.sds_trade.specs.rules.Places.{columns_at}
use Rattle.sds_trade.specs.rules.Sides.{fields_of}

-- a row: its values as they are printed
abbrev pub row_text : List ColumnDef → TableRow → List ℕ
row_text columns row = written_line (fields_of columns row.row) ++ codes "\n"

-- the rows of the table at a place, by key
abbrev pub rows_text : List TableDef → ℕ → List TableRow → List ℕ
rows_text defs table rows = flat_map (row_text (columns_at defs table))
    (filter (λ (row : TableRow). row.table == table) rows)
