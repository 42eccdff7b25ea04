use Rattle.sds_trade.proofs.PoliciesComputed.{specified_makes_its_columns, absent_old_is_the_key, implied_keeps_places, keys_remain, deletes_become}
use Rattle.sds_trade.proofs.worked.rows_are_transformed.Goals as goal

pub returns-clause-specified : goal.returns-clause-specified
returns-clause-specified c = specified_makes_its_columns

pub returns-clause-absent : goal.returns-clause-absent
returns-clause-absent c = absent_old_is_the_key

pub returns-clause-implied : goal.returns-clause-implied
returns-clause-implied c = implied_keeps_places

pub returns-clause-keys : goal.returns-clause-keys
returns-clause-keys c = keys_remain

pub returns-clause-deletes : goal.returns-clause-deletes
returns-clause-deletes c = deletes_become
