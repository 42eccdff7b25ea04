use Rattle.sds_trade.proofs.StepsKeep.{steps_keep_references}
use Rattle.sds_trade.proofs.RunKeeps.{writes_keep_tables, batches_keep_tables}
use Rattle.sds_trade.proofs.laws.references_hold.Goals as goal

pub returns-clause-step : goal.returns-clause-step
returns-clause-step c = steps_keep_references

pub returns-clause-write : goal.returns-clause-write
returns-clause-write c = writes_keep_tables

pub returns-clause-batch : goal.returns-clause-batch
returns-clause-batch c = batches_keep_tables
