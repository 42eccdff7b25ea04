use Rattle.std.proofs.Common.{◌≡◌, ◌++◌, drop}
use Rattle.sds_imagelaws.specs.Edits.{row_edits}
use Rattle.sds_rows.specs.Undoing.{without_undos}
use Rattle.sds_runs.proofs.steps.push_steps.Given as goal

abbrev pub invariant-loop-done : goal.invariant-loop-done
invariant-loop-done l = l.edits.items ++ row_edits l.config (without_undos (drop l.done-index l.dones))
    ≡ l.initial.edits.items ++ row_edits l.config (without_undos l.dones)
