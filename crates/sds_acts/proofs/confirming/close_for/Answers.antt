use Rattle.std.proofs.Common.{◌∙◌, ap, map, refl}
use Rattle.std.specs.Str.{chars}
use Rattle.sds_history.specs.history.Acts.Act.{Confirmed}
use Rattle.sds_history.specs.history.Openings.{closed_for}
use Rattle.sds_image.specs.Meaning.{meaning_of}
use Rattle.sds_acts.proofs.CallEnds.{act_made, passed_on}
use Rattle.sds_acts.proofs.QuietActs.{closing_is, closing_state}
use Rattle.sds_acts.proofs.confirming.close_for.Goals as goal

pub returns-in_err-commit-clause-ends : goal.returns-in_err-commit-clause-ends
returns-in_err-commit-clause-ends g c =
    passed_on c.args.config.now c.args.state.now c.args.state.now _ _ (Confirmed (chars c.args.peer.now)) c.deref-2.result.now c.in_err-commit.field-0.0 _
    (closing_is c.args.config.now (meaning_of c.args.state.now) (chars c.args.peer.now) c.args.counts c.deref.result.now _ c.deref-2.result.now
    c.requires.counts (c.deref.ensures.value ∙ c.inner.ensures) c.in_ok-edits.ensures c.deref-2.ensures.value)
    c.in_err-commit.ensures.told c.from_residual-in_err-commit.ensures.1 refl

pub returns-clause-ends : goal.returns-clause-ends
returns-clause-ends g c =
    act_made c.args.config.now c.args.state.now (record c.args.state.now { counts = c.args.counts; openings = c.of.result }) _ _
    (Confirmed (chars c.args.peer.now)) c.deref-2.result.now
    (closing_is c.args.config.now (meaning_of c.args.state.now) (chars c.args.peer.now) c.args.counts c.deref.result.now _ c.deref-2.result.now
    c.requires.counts (c.deref.ensures.value ∙ c.inner.ensures) c.in_ok-edits.ensures c.deref-2.ensures.value)
    c.in_ok-commit.ensures.told
    (closing_state c.args.config.now (meaning_of c.args.state.now) (chars c.args.peer.now) c.args.counts c.of.result c.requires.counts
    (c.of.ensures ∙ (c.close_openings.ensures
    ∙ ap (λ os. map (closed_for (chars c.args.peer.now)) os) (c.into_inner-openings.ensures ∙ c.replace.ensures.value))))
