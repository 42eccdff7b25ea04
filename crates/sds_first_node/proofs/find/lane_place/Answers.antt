use Rattle.std.proofs.Common.{sym, ◌∙◌}
use Rattle.sds_first_node.proofs.Found.{lane_at}
use Rattle.sds_first_node.proofs.find.lane_place.Goals as goal

pub returns-then-lane-channel : goal.returns-then-lane-channel
returns-then-lane-channel c =
    lane_at _ _ _ _ _ c.loop-place-test.true c.index-lanes-place.is (sym c.is.ensures ∙ c.if-is.true) c.if-lane-channel.true c.loop-place.invariant.put
