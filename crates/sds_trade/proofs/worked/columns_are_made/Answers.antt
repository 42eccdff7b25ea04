use Rattle.sds_trade.proofs.ColumnsComputed.{copies, substrings, lefts, maps, of_null}
use Rattle.sds_trade.proofs.worked.columns_are_made.Goals as goal

pub returns-clause-copy : goal.returns-clause-copy
returns-clause-copy c = copies

pub returns-clause-substr : goal.returns-clause-substr
returns-clause-substr c = substrings

pub returns-clause-left : goal.returns-clause-left
returns-clause-left c = lefts

pub returns-clause-map : goal.returns-clause-map
returns-clause-map c = maps

pub returns-clause-null : goal.returns-clause-null
returns-clause-null c = of_null
