use Rattle.std.proofs.Common.{◌≡◌, drop}
use Rattle.sds_batcher.specs.Lanes.{empty_lanes, with_all}
use Rattle.sds_batcher.proofs.lanes.lanes_of.Given as goal

-- the lanes so far with the changes that are left are the lanes with all of them
abbrev pub invariant-loop-place : goal.invariant-loop-place
invariant-loop-place l =
    with_all l.channel (drop l.place l.changes) (drop l.place l.targets) l.lanes.items
    ≡ with_all l.channel l.changes l.targets (empty_lanes l.peers)
