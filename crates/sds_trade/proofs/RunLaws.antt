-- What is refused or ignored leaves the tables, and what is accepted goes by its steps.
use Rattle.std.proofs.Common.{ap}
use Rattle.sds_trade.specs.laws.Runs.{RefusedWriteLeavesTables, RefusedBatchLeavesTables, IgnoredBatchLeavesTables, rows_left}

pub refused_write_leaves_tables : RefusedWriteLeavesTables
refused_write_leaves_tables config group waiting rows tx number rule is = ap (rows_left rows) is

pub refused_batch_leaves_tables : RefusedBatchLeavesTables
refused_batch_leaves_tables config group waiting rows batch number rule is = ap (rows_left rows) is

pub ignored_batch_leaves_tables : IgnoredBatchLeavesTables
ignored_batch_leaves_tables config group waiting rows batch is = ap (rows_left rows) is
