-- Rows that are a node's tables, after a step that fits and breaks no rule.
use Rattle.std.proofs.Common.{◌≡◌, ◌≤◌, List, None, length}
use Rattle.sds_value.specs.declared.table.TableDef.{TableDef}
use Rattle.sds_types.specs.Limits.{most_rows}
use Rattle.sds_types.specs.declared.row.RowStep.{RowStep}
use Rattle.sds_types.specs.declared.row.TableRow.{TableRow}
use Rattle.sds_trade.specs.rules.Fitting.{FitsStep}
use Rattle.sds_trade.specs.rules.StepRules.{broken_rule}
use Rattle.sds_trade.specs.rules.Steps.{rows_after}
use Rattle.sds_trade.specs.rules.Tables.{AreTables}
use Rattle.sds_rows.proofs.Keeping.{step_keeps}

pub kept_by_step : (defs defs_after : List TableDef) (rows rows_then : List TableRow) (step : RowStep) → AreTables defs rows → FitsStep defs step
    → broken_rule defs rows step ≡ None → rows_then ≡ rows_after defs rows step → length rows_then ≤ most_rows → defs_after ≡ defs → AreTables defs_after rows_then
kept_by_step defs defs_after rows rows_then step are fits breaks is few same = rw same (rw is (step_keeps defs rows step are fits breaks (rw (← is) few)))
