use Rattle.std.proofs.Common.{◌∙◌, chars}
use Rattle.sds_expressions.proofs.Saying.{returned, choice_form}
use Rattle.sds_expressions.proofs.subselect_router.subselect_text.Goals as goal

pub returns-clause-form : goal.returns-clause-form
returns-clause-form c = returned _ _ c.read_text.result (λ read. choice_form (chars c.args.text.now) c.as_slice.result.now c.beginning.result read c.beginning.ensures (c.as_slice.ensures.value ∙ c.in_ok-characters.ensures)) c.read_text.ensures
