use Rattle.sds_trade.proofs.RoutingComputed.{own_goes_to_all, no_ping_back, ping_back, named_once, disabled_names_none, nobody_is_named}
use Rattle.sds_trade.proofs.worked.batches_go_to_peers.Goals as goal

pub returns-clause-own : goal.returns-clause-own
returns-clause-own c = own_goes_to_all

pub returns-clause-brought : goal.returns-clause-brought
returns-clause-brought c = no_ping_back

pub returns-clause-back : goal.returns-clause-back
returns-clause-back c = ping_back

pub returns-clause-once : goal.returns-clause-once
returns-clause-once c = named_once

pub returns-clause-disabled : goal.returns-clause-disabled
returns-clause-disabled c = disabled_names_none

pub returns-clause-nobody : goal.returns-clause-nobody
returns-clause-nobody c = nobody_is_named
