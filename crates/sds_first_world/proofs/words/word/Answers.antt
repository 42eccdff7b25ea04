use Rattle.sds_first_world.proofs.Plain.{plain_chars}
use Rattle.sds_first_world.proofs.words.word.Goals as goal

pub returns : goal.returns
returns c = rw (← plain_chars c.args.word.now c.requires) c.copied.ensures
