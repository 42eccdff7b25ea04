use Rattle.std.proofs.Common.{◌≡◌, ◌++◌, [], drop}
use Rattle.sds_batcher.specs.Lanes.{batches_to_come}
use Rattle.sds_batcher.proofs.making.make_lane.Given as goal

-- the batches so far and those to come are all of the lane's
abbrev pub invariant-loop-place : goal.invariant-loop-place
invariant-loop-place l =
    l.batches.items ++ batches_to_come l.def l.channel l.peer l.ids (drop l.place l.lane)
    ≡ l.initial.batches.items ++ batches_to_come l.def l.channel l.peer [] l.lane
