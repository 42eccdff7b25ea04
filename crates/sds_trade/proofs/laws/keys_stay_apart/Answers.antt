use Rattle.sds_trade.proofs.TableLaws.{steps_keep_order, ascending_keys_are_apart}
use Rattle.sds_trade.proofs.laws.keys_stay_apart.Goals as goal

pub returns-clause-order : goal.returns-clause-order
returns-clause-order c = steps_keep_order

pub returns-clause-apart : goal.returns-clause-apart
returns-clause-apart c = ascending_keys_are_apart
