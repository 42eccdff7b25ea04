use Rattle.std.proofs.Common.{ap, sym, ◌∙◌}
use Rattle.std.specs.List.{list_all}
use Rattle.sds_batchtext.specs.Writable.{is_batch_text}
use Rattle.sds_received.specs.Rows.{has_few_rows}
use Rattle.sds_received.proofs.Loadable.{loadable}
use Rattle.sds_received.proofs.batches.read_batches.Goals as goal

pub returns-clause-loadable : goal.returns-clause-loadable
returns-clause-loadable c =
    let same = sym (c.as_slice-all.ensures.value ∙ c.inner.ensures) in
    loadable c.args.text.now c.in_ok-docs.docs c.in_ok-docs.ensures
    (ap (list_all has_few_rows) same ∙ (sym c.have_few_rows.ensures ∙ c.if-not-have_few_rows.false))
    (ap (list_all is_batch_text) same ∙ c.batches_are_of_characters.ensures)
