use Rattle.sds_trade.proofs.RunLaws.{refused_write_leaves_tables, refused_batch_leaves_tables, ignored_batch_leaves_tables}
use Rattle.sds_trade.proofs.laws.refusals_leave_tables.Goals as goal

pub returns-clause-write : goal.returns-clause-write
returns-clause-write c = refused_write_leaves_tables

pub returns-clause-batch : goal.returns-clause-batch
returns-clause-batch c = refused_batch_leaves_tables

pub returns-clause-ignored : goal.returns-clause-ignored
returns-clause-ignored c = ignored_batch_leaves_tables
