use Rattle.sds_trade.proofs.KeysComputed.{listed_key_is_once, specified_has_its_keys, keys_are_looked_up, keys_are_old, events_take_part}
use Rattle.sds_trade.proofs.worked.keys_are_made.Goals as goal

pub returns-clause-once : goal.returns-clause-once
returns-clause-once c = listed_key_is_once

pub returns-clause-specified : goal.returns-clause-specified
returns-clause-specified c = specified_has_its_keys

pub returns-clause-looked_up : goal.returns-clause-looked_up
returns-clause-looked_up c = keys_are_looked_up

pub returns-clause-old : goal.returns-clause-old
returns-clause-old c = keys_are_old

pub returns-clause-events : goal.returns-clause-events
returns-clause-events c = events_take_part
