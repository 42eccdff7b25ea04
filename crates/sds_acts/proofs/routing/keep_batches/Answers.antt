use Rattle.std.proofs.Common.{◌∙◌, ◌++◌, ap}
use Rattle.sds_history.specs.history.Acts.Act.{Routed}
use Rattle.sds_image.specs.Meaning.{meaning_of}
use Rattle.sds_acts.proofs.CallEnds.{act_made, passed_on}
use Rattle.sds_acts.proofs.Routes.{made_edits, made_state}
use Rattle.sds_acts.proofs.routing.keep_batches.Goals as goal

pub returns-in_err-end-clause-ends : goal.returns-in_err-end-clause-ends
returns-in_err-end-clause-ends g c =
    passed_on c.args.config.now c.args.state.now (record c.args.state.now { batches = c.of.result }) _ _ Routed c.deref-2.result.now c.in_err-end.field-0.0 _
    (made_edits c.args.config.now (meaning_of c.args.state.now) c.args.made.items c.args.counts _ c.deref-2.result.now c.deref.result.now
    c.requires.batches c.requires.counts c.deref.ensures.value c.in_ok-edits.ensures c.deref-2.ensures.value)
    c.in_err-end.ensures.told c.from_residual-in_err-end.ensures.1
    (ap (λ bs. record c.args.state.now { batches = bs })
    (c.of.ensures ∙ (c.in_err-end.ensures.err ∙ (c.into_inner-batches.ensures ∙ c.replace.ensures.value))))

pub returns-clause-ends : goal.returns-clause-ends
returns-clause-ends g c =
    act_made c.args.config.now c.args.state.now (record c.args.state.now { counts = c.args.counts; batches = c.of.result }) _ _ Routed c.deref-2.result.now
    (made_edits c.args.config.now (meaning_of c.args.state.now) c.args.made.items c.args.counts _ c.deref-2.result.now c.deref.result.now
    c.requires.batches c.requires.counts c.deref.ensures.value c.in_ok-edits.ensures c.deref-2.ensures.value)
    c.in_ok-end.ensures.told
    (made_state c.args.config.now (meaning_of c.args.state.now) c.args.made.items c.of.result c.args.counts c.requires.batches c.requires.counts
    (c.of.ensures ∙ (c.in_ok-end.ensures.ok ∙ ap (λ bs. bs ++ c.args.made.items) (c.into_inner-batches.ensures ∙ c.replace.ensures.value))))
