use Rattle.sds_trade.proofs.RunKeeps.{writes_go_by_step, batches_go_by_step}
use Rattle.sds_trade.proofs.laws.tables_go_by_step.Goals as goal

pub returns-clause-write : goal.returns-clause-write
returns-clause-write c = writes_go_by_step

pub returns-clause-batch : goal.returns-clause-batch
returns-clause-batch c = batches_go_by_step
