use Rattle.sds_trade.proofs.NamingComputed.{lookup_decides, choice_decides}
use Rattle.sds_trade.proofs.worked.rows_name_stores.Goals as goal

pub returns-clause-lookup : goal.returns-clause-lookup
returns-clause-lookup c = lookup_decides

pub returns-clause-choice : goal.returns-clause-choice
returns-clause-choice c = choice_decides
