use Rattle.sds_loadlaws.proofs.Texts.{text_spelt}
use Rattle.sds_received.proofs.texts.text_is_of_characters.Goals as goal

pub returns : goal.returns
returns c = text_spelt c.as_str.result.now c.args.text.now c.as_str.utf8 c.as_str.ensures.chars
