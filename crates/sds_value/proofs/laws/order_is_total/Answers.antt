use Rattle.sds_value.proofs.Orders.{value_order_total, one_value}
use Rattle.sds_value.proofs.laws.order_is_total.Goals as goal

pub returns-clause-total : goal.returns-clause-total
returns-clause-total c = value_order_total

pub returns-clause-equal : goal.returns-clause-equal
returns-clause-equal c = one_value
