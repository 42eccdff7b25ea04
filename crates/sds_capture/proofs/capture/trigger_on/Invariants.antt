use Rattle.std.proofs.Common.{◌≡◌, ◌==◌, ℕ, drop, find}
use Rattle.std.specs.List.{enumerate_from}
use Rattle.sds_types.specs.declared.trigger.TriggerDef.{TriggerDef}
use Rattle.sds_capture.proofs.capture.trigger_on.Given as goal

abbrev pub invariant-loop-place : goal.invariant-loop-place
invariant-loop-place l = find (λ (at : ℕ × TriggerDef). at.1.source_table == l.table) (enumerate_from l.place (drop l.place l.triggers))
    ≡ find (λ (at : ℕ × TriggerDef). at.1.source_table == l.table) (enumerate_from 0 l.triggers)
