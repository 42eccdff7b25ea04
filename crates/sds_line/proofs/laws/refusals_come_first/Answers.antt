use Rattle.sds_line.proofs.Hope.{hopeless, hopeful}
use Rattle.sds_line.proofs.laws.refusals_come_first.Goals as goal

pub returns : goal.returns
returns c = record { hopeless = hopeless; hopeful = hopeful }
