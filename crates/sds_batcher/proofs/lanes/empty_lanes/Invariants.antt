use Rattle.std.proofs.Common.{◌≡◌}
use Rattle.sds_batcher.specs.Lanes.{empty_lanes}
use Rattle.sds_batcher.proofs.lanes.empty_lanes.Given as goal

-- as many lanes as turns
abbrev pub invariant-loop-peer : goal.invariant-loop-peer
invariant-loop-peer l = l.lanes.items ≡ empty_lanes l._peer
