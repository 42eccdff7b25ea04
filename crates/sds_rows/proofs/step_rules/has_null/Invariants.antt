use Rattle.std.proofs.Common.{◌≡◌, drop}
use Rattle.sds_trade.specs.rules.StepRules.{has_null}
use Rattle.sds_rows.proofs.step_rules.has_null.Given as goal

abbrev pub invariant-loop-place : goal.invariant-loop-place
invariant-loop-place l = has_null (drop l.place l.columns) (record { 0 = drop l.place l.values }) ≡ has_null l.columns (record { 0 = l.values })
