use Rattle.std.proofs.Common.{◌≡◌, ◌++◌, drop, map}
use Rattle.sds_history.specs.history.Records.{batch_record}
use Rattle.sds_imagelaws.specs.Edits.{puts_of}
use Rattle.sds_acts.proofs.routing.push_batches.Given as goal

abbrev pub invariant-loop-batch : goal.invariant-loop-batch
invariant-loop-batch l =
    l.edits.items ++ puts_of (map (batch_record l.config) (drop l.batch-index l.made))
    ≡ l.initial.edits.items ++ puts_of (map (batch_record l.config) l.made)
