use Rattle.sds_line.proofs.Back.{written_back}
use Rattle.sds_line.proofs.laws.written_reads_back.Goals as goal

pub returns : goal.returns
returns c = record { line = written_back }
