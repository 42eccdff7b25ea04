use Rattle.std.proofs.Common.{◌≡◌, drop}
use Rattle.sds_batcher.specs.Lanes.{with_each}
use Rattle.sds_batcher.proofs.lanes.add_to_each.Given as goal

-- the lanes so far with those that are left are the lanes with each
abbrev pub invariant-loop-place : goal.invariant-loop-place
invariant-loop-place l = with_each (drop l.place-index l.places) l.waiting l.lanes.items
    ≡ with_each l.places l.waiting l.initial.lanes.items
