use Rattle.std.proofs.Common.{◌≡◌, ◌∙◌, ◌+◌, ◌≤◌, ◌-◌, List, ℕ, Bool, length, ap, sym, arith}
use Rattle.std.specs.Str.{chars}
use Rattle.sds_types.specs.declared.batch.OutBatch.{OutBatch}
use Rattle.sds_history.specs.history.Acts.{State}
use Rattle.sds_image.specs.Meaning.{meaning_of}
use Rattle.sds_messages.specs.Closing.{closes_part}
use Rattle.sds_messages.proofs.Finding.{found}
use Rattle.sds_messages.proofs.Puts.{all_put, closed_at, part_count, part_put, put_last, put_on}
use Rattle.sds_messages.proofs.part.put_part.Goals as goal

pub put_document-requires-clause-known : goal.put_document-requires-clause-known
put_document-requires-clause-known c =
    found c.args.state.now.batches c.deref-batch-items.result.now c.loop-batch.batch-index c.batch-item.result c.requires.state.lists.batches
    (c.deref-batch-items.ensures.value ∙ c.inner.ensures) c.loop-batch-test.true c.batch-item.is

pub returns-then-closes_part-clause-count : goal.returns-then-closes_part-clause-count
returns-then-closes_part-clause-count c =
    part_count c.args.config.now (meaning_of c.args.state.now) (chars c.args.to.now) c.args.channel c.args.def.now c.deref-batch-items.result.now c.args.out.now.items
    (c.loop-batch.count + 1) c.put_document.new.out.items (c.deref-batch-items.ensures.value ∙ c.inner.ensures)
    (put_last c.args.config.now (meaning_of c.args.state.now) (chars c.args.to.now) c.args.channel c.args.def.now.max_batch_to_send c.deref-batch-items.result.now c.args.out.now.items
    c.loop-batch.batch-index c.loop-batch.count c.batch-item.result c.loop-batch.out.items c.loop-batch-test.true c.batch-item.is c.loop-batch.invariant.1
    (sym c.if-not-is_waiting.false ∙ c.is_waiting.ensures) c.put_document.new.out.items c.in_ok-put_document.ensures.ok
    (closed_at c.args.def.now.max_batch_to_send (c.loop-batch.count + 1) c.len.result c.len-start.result c.batch-item.result c.put_document.new.out.items c.args.out.now.items
    (c.len.ensures ∙ c.put_document.new.out.ok.0) (c.len-start.ensures ∙ c.args.out.now.ok.0) (sym c.if-closes_part.true ∙ c.closes_part.ensures)))

pub returns-then-closes_part-clause-text : goal.returns-then-closes_part-clause-text
returns-then-closes_part-clause-text c =
    part_put c.args.config.now (meaning_of c.args.state.now) (chars c.args.to.now) c.args.channel c.args.def.now c.deref-batch-items.result.now c.args.out.now.items
    (c.loop-batch.count + 1) c.put_document.new.out.items (c.deref-batch-items.ensures.value ∙ c.inner.ensures)
    (put_last c.args.config.now (meaning_of c.args.state.now) (chars c.args.to.now) c.args.channel c.args.def.now.max_batch_to_send c.deref-batch-items.result.now c.args.out.now.items
    c.loop-batch.batch-index c.loop-batch.count c.batch-item.result c.loop-batch.out.items c.loop-batch-test.true c.batch-item.is c.loop-batch.invariant.1
    (sym c.if-not-is_waiting.false ∙ c.is_waiting.ensures) c.put_document.new.out.items c.in_ok-put_document.ensures.ok
    (closed_at c.args.def.now.max_batch_to_send (c.loop-batch.count + 1) c.len.result c.len-start.result c.batch-item.result c.put_document.new.out.items c.args.out.now.items
    (c.len.ensures ∙ c.put_document.new.out.ok.0) (c.len-start.ensures ∙ c.args.out.now.ok.0) (sym c.if-closes_part.true ∙ c.closes_part.ensures)))
    c.requires.state.acks

pub loop-batch-preserved : goal.loop-batch-preserved
loop-batch-preserved c = (
  omega (arith, c.loop-batch.invariant.0),
  put_on c.args.config.now (meaning_of c.args.state.now) (chars c.args.to.now) c.args.channel c.args.def.now.max_batch_to_send c.deref-batch-items.result.now c.args.out.now.items
      c.loop-batch.batch-index c.loop-batch.count c.batch-item.result c.loop-batch.out.items c.loop-batch-test.true c.batch-item.is c.loop-batch.invariant.1
      (sym c.if-not-is_waiting.false ∙ c.is_waiting.ensures) c.put_document.new.out.items c.in_ok-put_document.ensures.ok
      (closed_at c.args.def.now.max_batch_to_send (c.loop-batch.count + 1) c.len.result c.len-start.result c.batch-item.result c.put_document.new.out.items c.args.out.now.items
      (c.len.ensures ∙ c.put_document.new.out.ok.0) (c.len-start.ensures ∙ c.args.out.now.ok.0) (sym c.if-closes_part.false ∙ c.closes_part.ensures)),
)

pub returns-clause-count : goal.returns-clause-count
returns-clause-count c =
    part_count c.args.config.now (meaning_of c.args.state.now) (chars c.args.to.now) c.args.channel c.args.def.now c.deref-batch-items.result.now c.args.out.now.items
    c.loop-batch.count c.loop-batch.out.items (c.deref-batch-items.ensures.value ∙ c.inner.ensures)
    (all_put c.args.config.now (meaning_of c.args.state.now) (chars c.args.to.now) c.args.channel c.args.def.now.max_batch_to_send c.deref-batch-items.result.now c.args.out.now.items
    c.loop-batch.batch-index c.loop-batch.count c.loop-batch.out.items (omega arith) c.loop-batch.invariant.1)

pub returns-clause-text : goal.returns-clause-text
returns-clause-text c =
    part_put c.args.config.now (meaning_of c.args.state.now) (chars c.args.to.now) c.args.channel c.args.def.now c.deref-batch-items.result.now c.args.out.now.items
    c.loop-batch.count c.loop-batch.out.items (c.deref-batch-items.ensures.value ∙ c.inner.ensures)
    (all_put c.args.config.now (meaning_of c.args.state.now) (chars c.args.to.now) c.args.channel c.args.def.now.max_batch_to_send c.deref-batch-items.result.now c.args.out.now.items
    c.loop-batch.batch-index c.loop-batch.count c.loop-batch.out.items (omega arith) c.loop-batch.invariant.1)
    c.requires.state.acks
