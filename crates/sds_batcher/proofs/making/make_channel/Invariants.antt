use Rattle.std.proofs.Common.{◌≡◌, ◌++◌, drop}
use Rattle.sds_batcher.specs.Lanes.{lanes_to_come}
use Rattle.sds_batcher.proofs.making.make_channel.Given as goal

-- the batches so far and those of the lanes that are left are all of the channel's
abbrev pub invariant-loop-peer : goal.invariant-loop-peer
invariant-loop-peer l =
    l.batches.items ++ lanes_to_come l.def l.channel l.peer (drop l.peer l.lanes)
    ≡ l.initial.batches.items ++ lanes_to_come l.def l.channel 0 l.lanes
