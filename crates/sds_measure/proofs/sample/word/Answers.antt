use Rattle.sds_batchtext.proofs.Plain.{plain_chars}
use Rattle.sds_measure.proofs.sample.word.Goals as goal

pub returns : goal.returns
returns c = rw (← plain_chars c.args.word.now c.requires) c.copied.ensures
