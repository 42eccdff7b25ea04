use Rattle.sds_trade.proofs.CuttingComputed.{whole_transactions, full_batches, each_transaction, nothing_is_cut, places_and_counts}
use Rattle.sds_trade.proofs.worked.batches_end_by_algorithm.Goals as goal

pub returns-clause-whole : goal.returns-clause-whole
returns-clause-whole c = whole_transactions

pub returns-clause-full : goal.returns-clause-full
returns-clause-full c = full_batches

pub returns-clause-each : goal.returns-clause-each
returns-clause-each c = each_transaction

pub returns-clause-nothing : goal.returns-clause-nothing
returns-clause-nothing c = nothing_is_cut

pub returns-clause-places : goal.returns-clause-places
returns-clause-places c = places_and_counts
