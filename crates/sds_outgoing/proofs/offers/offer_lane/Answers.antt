use Rattle.std.proofs.Common.{◌∙◌, ◌++◌, Bool, List, ℕ, ap, sym, filter, arith}
use Rattle.std.specs.Str.{chars}
use Rattle.sds_types.specs.declared.batch.OutBatch.{OutBatch}
use Rattle.sds_image.specs.Meaning.{meaning_of}
use Rattle.sds_outgoing.specs.Offering.{ids_of, is_waiting, offered_after}
use Rattle.sds_outgoing.proofs.Going.{offered_is}
use Rattle.sds_outgoing.proofs.Turns.{all_went, last_went}
use Rattle.sds_outgoing.proofs.offers.offer_lane.Goals as goal

pub returns-then-ends_offer : goal.returns-then-ends_offer
returns-then-ends_offer c =
    let waits : OutBatch → Bool = is_waiting (chars c.args.to.now) c.args.channel in
    let most : ℕ = c.args.def.now.max_batch_to_send in
    let batches : List OutBatch = c.deref-batch-items.result.now in
    last_went waits most c.loop-batch.count batches c.loop-batch.batch-index c.batch-item.result c.loop-batch.ids.items c.push.new.self.items
    (c.args.ids.now.items ++ ids_of (offered_after most 0 (filter waits batches))) c.loop-batch-test.true c.batch-item.is c.loop-batch.invariant.1
    c.in_ok-push.ensures.items (sym c.if-not-is_waiting.false ∙ c.is_waiting.ensures) (sym c.if-ends_offer.true ∙ c.ends_offer.ensures)
    ∙ (ap (λ (bs : List OutBatch). c.args.ids.now.items ++ ids_of (offered_after most 0 (filter waits bs))) (c.deref-batch-items.ensures.value ∙ c.inner.ensures)
    ∙ ap (λ (bs : List OutBatch). c.args.ids.now.items ++ ids_of bs) (offered_is (meaning_of c.args.state.now) (chars c.args.to.now) c.args.channel c.args.def.now))

pub returns : goal.returns
returns c =
    let waits : OutBatch → Bool = is_waiting (chars c.args.to.now) c.args.channel in
    let most : ℕ = c.args.def.now.max_batch_to_send in
    let batches : List OutBatch = c.deref-batch-items.result.now in
    all_went waits most c.loop-batch.count batches c.loop-batch.batch-index c.loop-batch.ids.items
    (c.args.ids.now.items ++ ids_of (offered_after most 0 (filter waits batches))) (omega arith) c.loop-batch.invariant.1
    ∙ (ap (λ (bs : List OutBatch). c.args.ids.now.items ++ ids_of (offered_after most 0 (filter waits bs))) (c.deref-batch-items.ensures.value ∙ c.inner.ensures)
    ∙ ap (λ (bs : List OutBatch). c.args.ids.now.items ++ ids_of bs) (offered_is (meaning_of c.args.state.now) (chars c.args.to.now) c.args.channel c.args.def.now))
