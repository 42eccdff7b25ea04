use Rattle.sds_trade.proofs.NamingComputed.{moves_to_new, moves_from_old, delete_looks_back, insert_has_no_old, words_are_apart}
use Rattle.sds_trade.proofs.worked.tests_name_stores.Goals as goal

pub returns-clause-new : goal.returns-clause-new
returns-clause-new c = moves_to_new

pub returns-clause-old : goal.returns-clause-old
returns-clause-old c = moves_from_old

pub returns-clause-delete : goal.returns-clause-delete
returns-clause-delete c = delete_looks_back

pub returns-clause-insert : goal.returns-clause-insert
returns-clause-insert c = insert_has_no_old

pub returns-clause-words : goal.returns-clause-words
returns-clause-words c = words_are_apart
