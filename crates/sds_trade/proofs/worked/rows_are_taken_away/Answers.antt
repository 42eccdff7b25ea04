use Rattle.sds_trade.proofs.ReferencesComputed.{others_may_go, tables_are_apart, missing_is_missing, sold_may_change}
use Rattle.sds_trade.proofs.worked.rows_are_taken_away.Goals as goal

pub returns-clause-others : goal.returns-clause-others
returns-clause-others c = others_may_go

pub returns-clause-tables : goal.returns-clause-tables
returns-clause-tables c = tables_are_apart

pub returns-clause-missing : goal.returns-clause-missing
returns-clause-missing c = missing_is_missing

pub returns-clause-sold : goal.returns-clause-sold
returns-clause-sold c = sold_may_change
