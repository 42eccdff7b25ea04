use Rattle.std.proofs.Common.{◌≡◌, ◌++◌, drop, map}
use Rattle.sds_history.specs.history.Records.{writer_record}
use Rattle.sds_image.specs.Pairs.{pairs}
use Rattle.sds_image.proofs.records.push_writers.Given as goal

abbrev pub invariant-loop-last : goal.invariant-loop-last
invariant-loop-last l = l.all.items ++ pairs (map writer_record (drop l.last-index l.writers))
    ≡ l.initial.all.items ++ pairs (map writer_record l.writers)
