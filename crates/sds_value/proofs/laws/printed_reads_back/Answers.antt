use Rattle.sds_value.proofs.Back.{reads_back}
use Rattle.sds_value.proofs.laws.printed_reads_back.Goals as goal

pub returns : goal.returns
returns c = reads_back
