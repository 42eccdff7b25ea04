use Rattle.sds_batchtext.proofs.Plain.{plain_chars}
use Rattle.sds_batchtext.proofs.words.is_word.Goals as goal

pub returns : goal.returns
returns c = rw (← plain_chars c.args.word.now c.requires) c.is.ensures
