use Rattle.sds_nodelaws.proofs.Ending.{accepted_end_well, tables_are_steps}
use Rattle.sds_nodelaws.proofs.laws.tables_follow_steps.Goals as goal

pub returns-clause-step : goal.returns-clause-step
returns-clause-step c = tables_are_steps

pub returns-clause-well : goal.returns-clause-well
returns-clause-well c = accepted_end_well
