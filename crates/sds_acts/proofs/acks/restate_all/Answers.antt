use Rattle.std.proofs.Common.{◌∙◌, ◌∷◌, [], ap, refl, sym}
use Rattle.sds_history.specs.history.Acts.Act.{Acked}
use Rattle.sds_history.specs.history.Standings.{acknowledged}
use Rattle.sds_image.specs.Meaning.{meaning_of}
use Rattle.sds_outgoing.specs.Restating.{restated_by}
use Rattle.sds_acts.proofs.CallEnds.{act_made, passed_on}
use Rattle.sds_acts.proofs.QuietActs.{restating_state}
use Rattle.sds_acts.proofs.Stands.{restating_is}
use Rattle.sds_acts.proofs.acks.restate_all.Goals as goal

pub returns-in_err-commit-clause-ends : goal.returns-in_err-commit-clause-ends
returns-in_err-commit-clause-ends g c = λ from acks is.
    passed_on c.args.config.now c.args.state.now c.args.state.now _ _ (Acked from acks) _ c.in_err-commit.field-0.0 _
    (restating_is c.args.config.now (meaning_of c.args.state.now) from acks c.args.changed.now c.args.counts c.deref.result.now _ c.deref-2.result.now is
    c.requires.counts (c.deref.ensures.value ∙ c.inner.ensures) c.in_ok-edits.ensures c.deref-2.ensures.value)
    c.in_err-commit.ensures.told c.from_residual-in_err-commit.ensures.1 refl

pub returns-clause-ends : goal.returns-clause-ends
returns-clause-ends g c = λ from acks is.
    let stand = c.into_inner-batches.ensures ∙ c.replace.ensures.value in
    act_made c.args.config.now c.args.state.now (record c.args.state.now { counts = c.args.counts; batches = c.of.result }) _ _ (Acked from acks)
    c.deref-2.result.now
    (restating_is c.args.config.now (meaning_of c.args.state.now) from acks c.args.changed.now c.args.counts c.deref.result.now _ c.deref-2.result.now is
    c.requires.counts (c.deref.ensures.value ∙ c.inner.ensures) c.in_ok-edits.ensures c.deref-2.ensures.value)
    c.in_ok-commit.ensures.told
    (restating_state c.args.config.now (meaning_of c.args.state.now) from acks c.args.counts c.of.result c.requires.counts
    (c.of.ensures ∙ (c.restate.ensures from acks (is ∙ ap (λ bs. restated_by bs from acks) (sym stand)) ∙ ap (λ bs. acknowledged bs (Acked from acks ∷ [])) stand)))
