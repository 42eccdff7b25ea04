use Rattle.std.proofs.Common.{◌≡◌, ◌≤◌, ◌+◌, drop}
use Rattle.sds_history.specs.world.DeliverOrder.{mentions}
use Rattle.sds_delivery.proofs.order.times_in.Given as goal

-- the times so far and those that are left are all
abbrev pub invariant-loop-other : goal.invariant-loop-other
invariant-loop-other l = (l.times ≤ l.other-index)
    × (l.times + mentions (drop l.other-index l.channels) l.channel ≡ mentions l.channels l.channel)
