use Rattle.std.proofs.Common.{◌∙◌, sym}
use Rattle.std.proofs.lemmas.Str.{encodes-chars}
use Rattle.sds_base.proofs.Texts.{same_text}
use Rattle.sds_stage.proofs.ways.is_named.Goals as goal

pub returns : goal.returns
returns c = c.eq.ensures ∙ same_text _ c.args.name.now _ c.group_name.ensures.chars c.group_name.ensures.bytes (sym (encodes-chars _ c.utf8.name))
