use Rattle.sds_told.proofs.ReadBack.{read_back}
use Rattle.sds_told.proofs.laws.written_acks_read_back.Goals as goal

pub returns : goal.returns
returns c = λ acks all. read_back acks all
