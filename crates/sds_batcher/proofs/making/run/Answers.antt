use Rattle.std.proofs.Common.{ℕ, List, ◌∙◌, ap, arith}
use Rattle.std.specs.Borrow.{Bor}
use Rattle.std.specs.List.{enumerate_from}
use Rattle.sds_types.specs.declared.channel.ChannelDef.{ChannelDef}
use Rattle.sds_trade.specs.rules.Batches.{sorted_channels}
use Rattle.sds_batcher.specs.Lanes.{channel_batches, numbered}
use Rattle.sds_batcher.specs.Order.{entry_of}
use Rattle.sds_batcher.proofs.Waits.{all_made, run_is}
use Rattle.sds_batcher.proofs.making.run.Goals as goal

pub returns : goal.returns
returns c =
    let peers = c.count_peers-peers.result in
    let channels = c.deref-place-items.result.now in
    let made = λ (at : ℕ × Bor ChannelDef).
    channel_batches c.args.changes.now c.args.targets.now peers (entry_of at) in
    c.of.ensures ∙ (c.in_ok-number_from.ensures ∙ (ap (numbered c.args.first)
    (all_made made channels c.loop-place.place-index c.loop-place.batches.items (omega arith)
    c.loop-place.invariant)
    ∙ run_is c.args.config.now c.args.first peers c.args.changes.now c.args.targets.now channels
    c.requires c.count_peers-peers.ensures
    (rw c.deref-place-items.ensures.value (c.in_ok-channels.ensures
    ∙ ap (λ (cs : List ChannelDef). sorted_channels (enumerate_from 0 cs))
    (c.deref.ensures.value ∙ c.inner.ensures)))))
