use Rattle.sds_rows.proofs.Keeping.{step_keeps}
use Rattle.sds_rows.proofs.laws.steps_keep_tables.Goals as goal

pub returns : goal.returns
returns c = step_keeps
