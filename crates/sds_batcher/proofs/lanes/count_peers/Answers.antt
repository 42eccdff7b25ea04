use Rattle.std.proofs.Common.{ℕ, ◌+◌, ◌∙◌, List, ap, map}
use Rattle.std.specs.Prelude.{max}
use Rattle.std.specs.List.{fold, zip}
use Rattle.sds_trade.specs.rules.Batches.{peers_named}
use Rattle.sds_batcher.proofs.Waits.{count_turn}
use Rattle.sds_batcher.proofs.lanes.count_peers.Goals as goal

pub loop-place-preserved : goal.loop-place-preserved
loop-place-preserved c = count_turn c.args.changes.now c.args.targets.now c.loop-place.place
    c.index-changes-place.result c.in-Some.places.now c.loop-place.count c.count_from-count.result
    (peers_named (zip c.args.changes.now c.args.targets.now)) c.loop-place-test.true
    c.index-changes-place.is c.in-Some.ensures.lookup.3.0 c.in-Some.ensures.lookup.1
    (c.count_from-count.ensures
    ∙ ap (λ (places : List ℕ). fold max c.loop-place.count (map (λ (place : ℕ). place + 1) places))
    (c.deref.ensures.value ∙ c.inner.ensures))
    c.loop-place.invariant
