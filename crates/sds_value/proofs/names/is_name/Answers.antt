use Rattle.std.proofs.Common.{◌∙◌}
use Rattle.sds_value.proofs.Characters.{name_same}
use Rattle.sds_value.proofs.names.is_name.Goals as goal

pub returns : goal.returns
returns c = c.are_name_bytes.ensures ∙ (rw c.as_bytes.ensures.value (name_same c.args.text.now c.utf8.text))
