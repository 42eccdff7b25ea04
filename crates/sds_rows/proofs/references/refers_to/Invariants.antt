use Rattle.std.proofs.Common.{◌≡◌, drop}
use Rattle.sds_rows.proofs.Judging.{any_refers}
use Rattle.sds_rows.proofs.references.refers_to.Given as goal

abbrev pub invariant-loop-place : goal.invariant-loop-place
invariant-loop-place l = any_refers l.table (record { 0 = l.key }) (drop l.place l.columns) (drop l.place l.values)
    ≡ any_refers l.table (record { 0 = l.key }) l.columns l.values
