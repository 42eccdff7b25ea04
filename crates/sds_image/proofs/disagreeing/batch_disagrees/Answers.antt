use Rattle.std.proofs.Common.{not, ap, sym, ◌∙◌}
use Rattle.std.specs.List.{list_any}
use Rattle.sds_types.specs.declared.batch.OutBatch.{OutBatch}
use Rattle.sds_history.specs.history.SoundStates.{acks_ascend, is_counted_batch}
use Rattle.sds_image.proofs.Disagreements.{later_any}
use Rattle.sds_image.proofs.disagreeing.batch_disagrees.Goals as goal

pub returns-else-not-is_counted_batch : goal.returns-else-not-is_counted_batch
returns-else-not-is_counted_batch c = λ state before seen are.
    later_any (λ (earlier : OutBatch). not (acks_ascend earlier c.args.batch.now)) (λ kept. kept.now) c.args.earlier.now.batches _
    (is_counted_batch state c.args.batch.now) c.some_wait.result (sym (c.is_counted_batch.ensures state seen) ∙ c.if-not-is_counted_batch.false)
    (c.some_wait.ensures ∙ ap (list_any (λ kept. not (acks_ascend kept.now c.args.batch.now))) (c.deref.ensures.value ∙ c.inner.ensures)) are.batches
