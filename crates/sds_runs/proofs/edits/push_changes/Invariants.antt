use Rattle.std.proofs.Common.{◌≡◌, ◌++◌, drop, map}
use Rattle.sds_history.specs.history.RowRecords.{change_record}
use Rattle.sds_imagelaws.specs.Edits.{puts_of}
use Rattle.sds_runs.proofs.edits.push_changes.Given as goal

abbrev pub invariant-loop-change : goal.invariant-loop-change
invariant-loop-change l = l.edits.items ++ puts_of (map (change_record l.config) (drop l.change-index l.changes))
    ≡ l.initial.edits.items ++ puts_of (map (change_record l.config) l.changes)
