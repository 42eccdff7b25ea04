use Rattle.sds_trade.proofs.WritesComputed.{second_key, lost_update, sale_of_nothing, delete_of_sold, sold_keeps_key, key_changes}
use Rattle.sds_trade.proofs.worked.writes_break_keys_and_references.Goals as goal

pub returns-clause-second : goal.returns-clause-second
returns-clause-second c = second_key

pub returns-clause-lost : goal.returns-clause-lost
returns-clause-lost c = lost_update

pub returns-clause-parent : goal.returns-clause-parent
returns-clause-parent c = sale_of_nothing

pub returns-clause-children : goal.returns-clause-children
returns-clause-children c = delete_of_sold

pub returns-clause-kept : goal.returns-clause-kept
returns-clause-kept c = sold_keeps_key

pub returns-clause-moved : goal.returns-clause-moved
returns-clause-moved c = key_changes
