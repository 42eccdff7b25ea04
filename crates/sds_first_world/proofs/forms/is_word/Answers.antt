use Rattle.sds_first_world.proofs.Plain.{plain_chars}
use Rattle.sds_first_world.proofs.forms.is_word.Goals as goal

pub returns-in-Text : goal.returns-in-Text
returns-in-Text c = rw (c.in-Text.is, ← plain_chars c.args.word.now c.requires) c.is.ensures
