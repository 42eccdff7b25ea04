use Rattle.std.proofs.Common.{◌≡◌, ◌++◌, drop, map}
use Rattle.sds_history.specs.history.Records.{batch_record}
use Rattle.sds_image.specs.Pairs.{pairs}
use Rattle.sds_image.proofs.records.push_batches.Given as goal

abbrev pub invariant-loop-batch : goal.invariant-loop-batch
invariant-loop-batch l = l.all.items ++ pairs (map (batch_record l.config) (drop l.batch-index l.batches))
    ≡ l.initial.all.items ++ pairs (map (batch_record l.config) l.batches)
