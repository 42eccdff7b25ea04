-- Rows that are a node's tables after a step, by the law of steps on tables.
use Rattle.std.proofs.Common.{◌≡◌, ◌≤◌, List, length}
use Rattle.sds_value.specs.declared.table.TableDef.{TableDef}
use Rattle.sds_types.specs.Limits.{most_rows}
use Rattle.sds_types.specs.declared.row.RowStep.{RowStep}
use Rattle.sds_types.specs.declared.row.TableRow.{TableRow}
use Rattle.sds_trade.specs.rules.Steps.{rows_after}
use Rattle.sds_trade.specs.rules.Tables.{AreTables}

pub kept_by_step : (defs defs_after : List TableDef) (rows rows_then : List TableRow) (step : RowStep)
    → (length (rows_after defs rows step) ≤ most_rows → AreTables defs (rows_after defs rows step))
    → rows_then ≡ rows_after defs rows step → length rows_then ≤ most_rows → defs_after ≡ defs → AreTables defs_after rows_then
kept_by_step defs defs_after rows rows_then step keeps is few same = rw same (rw is (keeps (rw (← is) few)))
