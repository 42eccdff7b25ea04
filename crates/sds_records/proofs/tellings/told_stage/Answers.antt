use Rattle.sds_records.proofs.Words.{closed_is, given_is}
use Rattle.sds_records.proofs.tellings.told_stage.Goals as goal

pub returns-then-is : goal.returns-then-is
returns-then-is c = λ stage said at. given_is c.args.word.now c.in-Text.node c.in_ok-node-in-Text.node c.args.node.now stage c.is.result c.in-Text.is c.in_ok-node-in-Text.ensures c.is.ensures c.if-is.true said at

pub returns-else-is : goal.returns-else-is
returns-else-is c = λ stage said at. closed_is c.args.word.now c.in-Text.node c.in_ok-node-in-Text.node c.args.node.now stage c.is.result c.in-Text.is c.in_ok-node-in-Text.ensures c.is.ensures c.if-is.false said at
