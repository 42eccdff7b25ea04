use Rattle.sds_trade.proofs.BatchedComputed.{batches_are_known, rows_are_numbered, inserts_name_keys, columns_in_any_order, batches_are_captured, prices_are_added}
use Rattle.sds_trade.proofs.worked.batches_are_prepared.Goals as goal

pub returns-clause-known : goal.returns-clause-known
returns-clause-known c = batches_are_known

pub returns-clause-numbers : goal.returns-clause-numbers
returns-clause-numbers c = rows_are_numbered

pub returns-clause-keys : goal.returns-clause-keys
returns-clause-keys c = inserts_name_keys

pub returns-clause-order : goal.returns-clause-order
returns-clause-order c = columns_in_any_order

pub returns-clause-captured : goal.returns-clause-captured
returns-clause-captured c = batches_are_captured

pub returns-clause-prices : goal.returns-clause-prices
returns-clause-prices c = prices_are_added
