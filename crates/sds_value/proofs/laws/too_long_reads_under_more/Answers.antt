use Rattle.sds_value.proofs.Longer.{text_longer, bytes_longer}
use Rattle.sds_value.proofs.laws.too_long_reads_under_more.Goals as goal

pub returns-clause-text : goal.returns-clause-text
returns-clause-text c = text_longer

pub returns-clause-bytes : goal.returns-clause-bytes
returns-clause-bytes c = bytes_longer
