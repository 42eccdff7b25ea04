use Rattle.sds_world.proofs.SaidLines.{text_spelt}
use Rattle.sds_world.proofs.lines.text_is_spelt.Goals as goal

pub returns : goal.returns
returns c = text_spelt c.as_str.result.now c.args.text.now c.as_str.utf8 c.as_str.ensures.chars
