use Rattle.std.proofs.Common.{◌∙◌}
use Rattle.sds_records.proofs.Words.{side_said}
use Rattle.sds_records.proofs.tellings.side_of.Goals as goal

pub returns : goal.returns
returns c = λ child is. c.is.ensures ∙ side_said c.args.word.now child is
