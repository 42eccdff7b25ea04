use Rattle.std.proofs.Common.{◌≡◌, ◌++◌, drop, map}
use Rattle.sds_history.specs.history.Records.{opening_record}
use Rattle.sds_image.specs.Pairs.{pairs}
use Rattle.sds_image.proofs.records.push_openings.Given as goal

abbrev pub invariant-loop-opening : goal.invariant-loop-opening
invariant-loop-opening l = l.all.items ++ pairs (map opening_record (drop l.opening-index l.openings))
    ≡ l.initial.all.items ++ pairs (map opening_record l.openings)
