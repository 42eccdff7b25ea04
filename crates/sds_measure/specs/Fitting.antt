-- Changes that fit their table.
use Rattle.std.specs.Prelude.{List, IfSome}
use Rattle.sds_value.specs.declared.table.TableDef.{TableDef}
use Rattle.sds_types.specs.declared.row.Change.{Change}
use Rattle.sds_trade.specs.rules.Fitting.{FitsRow}

-- the rows of a change have a value for each column of its table, which suits the column
abbrev pub Fits : List TableDef → Change → Type 0
Fits defs change = IfSome change.new (FitsRow defs change.table)
    × IfSome change.old (FitsRow defs change.table)
