use Rattle.std.proofs.Common.{◌≡◌, ◌++◌, drop, map}
use Rattle.sds_history.specs.history.Records.{lane_record}
use Rattle.sds_image.specs.Pairs.{pairs}
use Rattle.sds_image.proofs.records.push_lanes.Given as goal

abbrev pub invariant-loop-lane : goal.invariant-loop-lane
invariant-loop-lane l = l.all.items ++ pairs (map (lane_record l.config) (drop l.lane-index l.lanes))
    ≡ l.initial.all.items ++ pairs (map (lane_record l.config) l.lanes)
