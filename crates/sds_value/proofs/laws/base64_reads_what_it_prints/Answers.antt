use Rattle.sds_value.proofs.Longer.{base64_only}
use Rattle.sds_value.proofs.laws.base64_reads_what_it_prints.Goals as goal

pub returns : goal.returns
returns c = base64_only
