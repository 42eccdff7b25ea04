use Rattle.std.proofs.Common.{not, ap, sym, ◌∙◌}
use Rattle.std.specs.List.{list_any}
use Rattle.sds_types.specs.declared.registration.Opening.{Opening}
use Rattle.sds_history.specs.history.SoundStates.{are_apart, stage_stands}
use Rattle.sds_image.proofs.Disagreements.{later_any}
use Rattle.sds_image.proofs.disagreeing.opening_disagrees.Goals as goal

pub returns-else-not-has_stage : goal.returns-else-not-has_stage
returns-else-not-has_stage c = λ state before seen are.
    later_any (λ (earlier : Opening). not (are_apart earlier c.args.opening.now)) (λ kept. kept.now) c.args.earlier.now.openings _
    (stage_stands state c.args.opening.now.stage) c.some_went.result (sym (c.has_stage.ensures state seen) ∙ c.if-not-has_stage.false)
    (c.some_went.ensures ∙ ap (list_any (λ kept. not (are_apart kept.now c.args.opening.now))) (c.deref.ensures.value ∙ c.inner.ensures)) are.openings
