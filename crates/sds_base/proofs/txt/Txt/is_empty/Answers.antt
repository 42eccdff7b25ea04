use Rattle.sds_base.proofs.Texts.{empty_text}
use Rattle.sds_base.proofs.txt.Txt.is_empty.Goals as goal

pub returns : goal.returns
returns c = empty_text _ _ _ c.as_str.ensures.chars c.as_str.ensures.bytes c.is_empty.ensures
