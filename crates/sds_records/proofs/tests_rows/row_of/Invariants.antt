use Rattle.std.proofs.Common.{take}
use Rattle.sds_trade.specs.rules.Fitting.{FitColumns}
use Rattle.sds_records.proofs.tests_rows.row_of.Given as goal

-- the values so far fit the columns so far
abbrev pub invariant-loop-place : goal.invariant-loop-place
invariant-loop-place l = FitColumns (take l.place l.columns) l.values
