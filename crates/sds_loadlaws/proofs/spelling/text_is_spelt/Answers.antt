use Rattle.sds_loadlaws.proofs.Texts.{text_spelt}
use Rattle.sds_loadlaws.proofs.spelling.text_is_spelt.Goals as goal

pub returns : goal.returns
returns c = text_spelt c.as_str.result.now c.args.text.now c.as_str.utf8 c.as_str.ensures.chars
