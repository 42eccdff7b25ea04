use Rattle.sds_told.proofs.Forms.{says, is_said}
use Rattle.sds_told.proofs.laws.pairs_say_what_they_write.Goals as goal

pub returns : goal.returns
returns c = λ name value ack. (says name value ack, is_said name value ack)
