use Rattle.std.proofs.Common.{List, ℕ, subst, ◌∙◌}
use Rattle.sds_config.specs.Configuration.{IsFirstRefusal}
use Rattle.symds.proofs.Readings.{refusal_read, refused_read}
use Rattle.symds.proofs.command.read_config.Goals as goal

pub returns-clause-refused : goal.returns-clause-refused
returns-clause-refused g c = λ read memory.
    refused_read _ c.in-Err.refusal c.refused.result
    (refusal_read c.in-Ok.whole.bytes _ _ c.in-Ok.whole.is_over c.in-Err.refusal c.in-Ok.ensures.all c.in-Ok.ensures.end c.in-Ok.ensures.over
    (subst (λ (l : List ℕ). IsFirstRefusal l c.in-Err.refusal) (c.deref.ensures.value ∙ c.inner.ensures) (c.in-Err.ensures.refused (λ is. memory (c.refused.ensures.memory is)))))
    (c.refused.ensures.said memory)
