use Rattle.std.proofs.Common.{◌∙◌, ap}
use Rattle.std.specs.Str.{chars}
use Rattle.sds_history.specs.history.Acts.Act.{Opened}
use Rattle.sds_history.specs.history.Openings.{opening_key}
use Rattle.sds_history.specs.history.Orders.{with_item}
use Rattle.sds_history.specs.history.Registrations.{token_of}
use Rattle.sds_image.specs.Meaning.{meaning_of}
use Rattle.sds_acts.proofs.CallEnds.{act_made, passed_on}
use Rattle.sds_acts.proofs.QuietActs.{opening_is, opening_state}
use Rattle.sds_acts.proofs.openings.open_one.Goals as goal

pub returns-in_err-end-clause-ends : goal.returns-in_err-end-clause-ends
returns-in_err-end-clause-ends g c =
    passed_on c.args.config.now c.args.state.now (record c.args.state.now { openings = c.of.result }) _ _
    (Opened (chars c.args.group.now) (chars c.args.external.now) (token_of c.args.noise.now)) c.deref.result.now c.in_err-end.field-0.0 _
    (opening_is c.args.config.now (meaning_of c.args.state.now) (chars c.args.group.now) (chars c.args.external.now) c.args.noise.now c.args.counts
    c.in_ok-opening.opening _ c.deref.result.now c.requires.counts c.in_ok-opening.ensures c.in_ok-edits.ensures c.deref.ensures.value)
    c.in_err-end.ensures.told c.from_residual-in_err-end.ensures.1
    (ap (λ os. record c.args.state.now { openings = os })
    (c.of.ensures ∙ (c.in_err-end.ensures.err ∙ (c.into_inner-openings.ensures ∙ c.replace.ensures.value))))

pub returns-clause-ends : goal.returns-clause-ends
returns-clause-ends g c =
    act_made c.args.config.now c.args.state.now (record c.args.state.now { counts = c.args.counts; openings = c.of.result }) _ _
    (Opened (chars c.args.group.now) (chars c.args.external.now) (token_of c.args.noise.now)) c.deref.result.now
    (opening_is c.args.config.now (meaning_of c.args.state.now) (chars c.args.group.now) (chars c.args.external.now) c.args.noise.now c.args.counts
    c.in_ok-opening.opening _ c.deref.result.now c.requires.counts c.in_ok-opening.ensures c.in_ok-edits.ensures c.deref.ensures.value)
    c.in_ok-end.ensures.told
    (opening_state c.args.config.now (meaning_of c.args.state.now) (chars c.args.group.now) (chars c.args.external.now) c.args.noise.now c.args.counts
    c.in_ok-opening.opening c.of.result c.requires.counts c.in_ok-opening.ensures
    (c.of.ensures ∙ (c.in_ok-end.ensures.ok
    ∙ ap (λ os. with_item opening_key c.in_ok-opening.opening os) (c.into_inner-openings.ensures ∙ c.replace.ensures.value))))
