use Rattle.std.proofs.Common.{ap, ◌∙◌}
use Rattle.std.specs.Str.{chars}
use Rattle.std.proofs.lemmas.Str.{chars-nil}
use Rattle.sds_config.proofs.fields.empty.Goals as goal

pub returns : goal.returns
returns c = c.of.ensures ∙ (ap chars c.new.ensures.bytes ∙ chars-nil)
