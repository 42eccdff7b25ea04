use Rattle.sds_trade.proofs.WritesComputed.{second_row, first_of_two, missing_gives_null, missing_takes_key, key_becomes_null}
use Rattle.sds_trade.proofs.worked.first_rule_answers.Goals as goal

pub returns-clause-row : goal.returns-clause-row
returns-clause-row c = second_row

pub returns-clause-rule : goal.returns-clause-rule
returns-clause-rule c = first_of_two

pub returns-clause-gives_null : goal.returns-clause-gives_null
returns-clause-gives_null c = missing_gives_null

pub returns-clause-takes_key : goal.returns-clause-takes_key
returns-clause-takes_key c = missing_takes_key

pub returns-clause-null_key : goal.returns-clause-null_key
returns-clause-null_key c = key_becomes_null
