use Rattle.sds_history.specs.history.Lanes.{lane_key}
use Rattle.sds_history.specs.history.SoundParts.{AscendBy}
use Rattle.sds_registry.proofs.tests.put_lanes.Given as goal

abbrev pub invariant-loop-peer : goal.invariant-loop-peer
invariant-loop-peer l = AscendBy (lane_key l.config) l.lanes.items
