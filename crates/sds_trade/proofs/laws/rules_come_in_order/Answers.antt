use Rattle.sds_trade.proofs.OrderLaws.{text_rules_come_first, first_unseen_rule_answers, capture_comes_last, missing_old_comes_first}
use Rattle.sds_trade.proofs.laws.rules_come_in_order.Goals as goal

pub returns-clause-texts : goal.returns-clause-texts
returns-clause-texts c = text_rules_come_first

pub returns-clause-unseen : goal.returns-clause-unseen
returns-clause-unseen c = first_unseen_rule_answers

pub returns-clause-capture : goal.returns-clause-capture
returns-clause-capture c = capture_comes_last

pub returns-clause-old : goal.returns-clause-old
returns-clause-old c = missing_old_comes_first
