use Rattle.std.proofs.Common.{take}
use Rattle.sds_trade.specs.rules.Tables.{IsRowOf}
use Rattle.sds_router.proofs.tests_rows.row_of.Given as goal

-- the values so far are a row of the columns so far
abbrev pub invariant-loop-place : goal.invariant-loop-place
invariant-loop-place l = IsRowOf (take l.place l.columns) (record { 0 = l.values })
