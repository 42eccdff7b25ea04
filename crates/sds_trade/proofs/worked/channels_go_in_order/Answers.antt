use Rattle.sds_trade.proofs.RoutingComputed.{channels_go_in_order, lanes_are_apart}
use Rattle.sds_trade.proofs.worked.channels_go_in_order.Goals as goal

pub returns-clause-order : goal.returns-clause-order
returns-clause-order c = channels_go_in_order

pub returns-clause-lanes : goal.returns-clause-lanes
returns-clause-lanes c = lanes_are_apart
