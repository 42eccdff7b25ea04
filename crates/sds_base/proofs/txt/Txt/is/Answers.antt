use Rattle.std.proofs.Common.{◌∙◌, sym}
use Rattle.std.proofs.lemmas.Str.{encodes-chars}
use Rattle.sds_base.proofs.Texts.{same_text}
use Rattle.sds_base.proofs.txt.Txt.is.Goals as goal

pub returns : goal.returns
returns c = c.eq.ensures ∙ same_text _ c.args.text.now _ c.as_str.ensures.chars c.as_str.ensures.bytes (sym (encodes-chars _ c.utf8.text))
