use Rattle.std.proofs.Common.{◌≡◌, ◌<◌, drop}
use Rattle.std.specs.Prelude.{nat_le}
use Rattle.sds_history.specs.world.DeliverOrder.{mentions}
use Rattle.sds_delivery.proofs.order.stands_so_often.Given as goal

-- the channel stands as often as is wanted where it stands as often as is left after these
abbrev pub invariant-loop-other : goal.invariant-loop-other
invariant-loop-other l = (0 < l.left)
    × (nat_le l.left (mentions (drop l.other-index l.channels) l.channel) ≡ nat_le l.times (mentions l.channels l.channel))
