use Rattle.std.proofs.Common.{◌∙◌}
use Rattle.sds_first_node.proofs.Written.{write_answer-judged, stands-wrote}
use Rattle.sds_first_node.proofs.node.Node.write.Goals as goal

pub returns-in-Err-clause-answer : goal.returns-in-Err-clause-answer
returns-in-Err-clause-answer c = λ _.
    write_answer-judged c.args.self.now.kept _ _ _ _ _ c.if-tx-gt10000.false c.requires.rows (c.deref.ensures.value ∙ c.in_ok-rows.ensures) c.in_default.ensures c.in-Err.ensures.answer

pub returns-clause-answer : goal.returns-clause-answer
returns-clause-answer c = λ _.
    write_answer-judged c.args.self.now.kept _ _ _ _ _ c.if-tx-gt10000.false c.requires.rows (c.deref.ensures.value ∙ c.in_ok-rows.ensures) c.in_default.ensures c.in-Ok.ensures.answer

pub returns-clause-stands : goal.returns-clause-stands
returns-clause-stands c = λ h stood.
    stands-wrote h c.args.self.now.kept _ _ _ _ _ _ c.requires.rows c.in_ok-rows.ensures (c.in-Ok.ensures.done _ _ _) c.in_ok-accept.ensures.ok stood
