use Rattle.std.proofs.Common.{◌≡◌, ℕ, ◌++◌, drop}
use Rattle.std.specs.Borrow.{Bor}
use Rattle.std.specs.List.{flat_map}
use Rattle.sds_types.specs.declared.channel.ChannelDef.{ChannelDef}
use Rattle.sds_batcher.specs.Lanes.{channel_batches}
use Rattle.sds_batcher.specs.Order.{entry_of}
use Rattle.sds_batcher.proofs.making.run.Given as goal

-- the batches so far and those of the channels that are left are all
abbrev pub invariant-loop-place : goal.invariant-loop-place
invariant-loop-place l =
    let made = λ (at : ℕ × Bor ChannelDef). channel_batches l.changes l.targets l.peers (entry_of at) in
    l.batches.items ++ flat_map made (drop l.place-index l.place-items)
    ≡ flat_map made l.place-items
