use Rattle.std.proofs.Common.{◌≡◌, ◌++◌, drop, map}
use Rattle.sds_history.specs.history.RowRecords.{change_record}
use Rattle.sds_image.specs.Pairs.{pairs}
use Rattle.sds_image.proofs.records.push_changes.Given as goal

abbrev pub invariant-loop-change : goal.invariant-loop-change
invariant-loop-change l = l.all.items ++ pairs (map (change_record l.config) (drop l.change-index l.changes))
    ≡ l.initial.all.items ++ pairs (map (change_record l.config) l.changes)
