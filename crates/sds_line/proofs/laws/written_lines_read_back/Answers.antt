use Rattle.sds_line.specs.Written.{written_line}
use Rattle.sds_line.proofs.Alone.{whole_line}
use Rattle.sds_line.proofs.Back.{written_back}
use Rattle.sds_line.proofs.laws.written_lines_read_back.Goals as goal

pub returns : goal.returns
returns c = λ number fields text ok form short. whole_line number (written_line fields) text fields (written_back fields ok form) short
