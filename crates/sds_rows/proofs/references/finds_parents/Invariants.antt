use Rattle.std.proofs.Common.{◌≡◌, drop}
use Rattle.sds_trade.specs.rules.Steps.{rows_after}
use Rattle.sds_rows.proofs.Judging.{all_found}
use Rattle.sds_rows.proofs.references.finds_parents.Given as goal

abbrev pub invariant-loop-place : goal.invariant-loop-place
invariant-loop-place l = all_found l.defs (rows_after l.defs l.rows l.step) (drop l.place l.columns) (drop l.place l.values)
    ≡ all_found l.defs (rows_after l.defs l.rows l.step) l.columns l.values
