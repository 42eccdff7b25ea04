use Rattle.sds_trade.proofs.RuleLaws.{first_step_rule_answers, answered_step_rule_is_broken, first_text_rule_answers, answered_text_rule_is_broken}
use Rattle.sds_trade.proofs.laws.first_rules_answer.Goals as goal

pub returns-clause-step : goal.returns-clause-step
returns-clause-step c = first_step_rule_answers

pub returns-clause-step_broken : goal.returns-clause-step_broken
returns-clause-step_broken c = answered_step_rule_is_broken

pub returns-clause-text : goal.returns-clause-text
returns-clause-text c = first_text_rule_answers

pub returns-clause-text_broken : goal.returns-clause-text_broken
returns-clause-text_broken c = answered_text_rule_is_broken
