use Rattle.std.proofs.Common.{◌≡◌, ◌∙◌, List, ap, map, subst}
use Rattle.std.specs.Prelude.{IfOk}
use Rattle.sds_types.specs.declared.batch.OutBatch.{OutBatch}
use Rattle.sds_types.specs.declared.peer.KeptPeer.{KeptPeer}
use Rattle.sds_image.specs.Meaning.{meaning_of}
use Rattle.sds_acts.proofs.Routes.{made_are, targets_ascend, unrouted_are}
use Rattle.sds_acts.proofs.batches.new_batches.Goals as goal

pub all_targets-requires-clause-changes : goal.all_targets-requires-clause-changes
all_targets-requires-clause-changes c =
    unrouted_are c.args.config.now c.args.state.now.counts.routed c.args.state.now.changes c.unrouted-changes.result.now c.requires.sound.changes
    c.unrouted-changes.ensures

pub run-requires : goal.run-requires
run-requires c =
    targets_ascend c.args.config.now c.args.state.now.me c.args.state.now.tables.rows c.deref-2.result.now c.unrouted-changes.result.now
    c.deref-3.result.now (c.deref-3.ensures.value ∙ c.in_ok-targets.ensures)

pub returns : goal.returns
returns c =
    subst (λ (made : List OutBatch). IfOk c.out_batches.result (λ batches. batches.items ≡ made))
    (made_are c.args.config.now (meaning_of c.args.state.now) c.in_ok-peers.peers.items c.deref-2.result.now c.deref-4.result.now
    c.unrouted-changes.result.now c.in_ok-targets.targets.items c.deref-3.result.now c.in_ok-made.made c.deref-5.result.now
    (c.in_ok-peers.ensures ∙ ap (map (λ (kept : KeptPeer). kept.peer)) (c.deref.ensures.value ∙ c.inner.ensures)) c.deref-2.ensures.value
    c.deref-4.ensures.value c.unrouted-changes.ensures c.in_ok-targets.ensures c.deref-3.ensures.value c.in_ok-made.ensures
    (c.deref-5.ensures.value ∙ c.inner-2.ensures))
    c.out_batches.ensures
