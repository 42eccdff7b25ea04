use Rattle.sds_trade.proofs.TextsComputed.{keys_are_named, inserts_name_the_key, columns_are_named, texts_are_read}
use Rattle.sds_trade.proofs.worked.texts_are_judged.Goals as goal

pub returns-clause-keys : goal.returns-clause-keys
returns-clause-keys c = keys_are_named

pub returns-clause-inserts : goal.returns-clause-inserts
returns-clause-inserts c = inserts_name_the_key

pub returns-clause-columns : goal.returns-clause-columns
returns-clause-columns c = columns_are_named

pub returns-clause-values : goal.returns-clause-values
returns-clause-values c = texts_are_read
