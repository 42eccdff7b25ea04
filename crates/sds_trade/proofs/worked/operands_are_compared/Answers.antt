use Rattle.sds_trade.proofs.OperandsComputed.{words_are_told, default_names_all, lookups_look_right, choices_by_node}
use Rattle.sds_trade.proofs.worked.operands_are_compared.Goals as goal

pub returns-clause-words : goal.returns-clause-words
returns-clause-words c = words_are_told

pub returns-clause-default : goal.returns-clause-default
returns-clause-default c = default_names_all

pub returns-clause-lookups : goal.returns-clause-lookups
returns-clause-lookups c = lookups_look_right

pub returns-clause-choices : goal.returns-clause-choices
returns-clause-choices c = choices_by_node
