use Rattle.std.proofs.Common.{sym, ◌∙◌}
use Rattle.sds_first_node.proofs.Runs.{none_routed, none_acts, some_routed, stands-routed}
use Rattle.sds_first_node.proofs.Written.{stands-still}
use Rattle.sds_first_node.proofs.node.Node.route.Goals as goal

pub returns-then-not-is_waiting-clause-answer : goal.returns-then-not-is_waiting-clause-answer
returns-then-not-is_waiting-clause-answer c = λ _. sym (none_routed c.args.self.now.kept (sym c.is_waiting.ensures ∙ c.if-not-is_waiting.true))

pub returns-then-not-is_waiting-clause-stands : goal.returns-then-not-is_waiting-clause-stands
returns-then-not-is_waiting-clause-stands c = λ h stood.
    stands-still h c.args.self.now.kept _ (none_acts c.args.self.now.kept 0 (sym c.is_waiting.ensures ∙ c.if-not-is_waiting.true)) stood

pub returns-in-Err-clause-answer : goal.returns-in-Err-clause-answer
returns-in-Err-clause-answer c = λ not.
    some_routed c.args.self.now.kept _ _ (sym c.is_waiting.ensures ∙ c.if-not-is_waiting.false) c.in_ok-pieces.ensures (c.in-Err.ensures.answer not)

pub returns-clause-answer : goal.returns-clause-answer
returns-clause-answer c = λ not.
    some_routed c.args.self.now.kept _ _ (sym c.is_waiting.ensures ∙ c.if-not-is_waiting.false) c.in_ok-pieces.ensures (c.in-Ok.ensures.answer not)

pub returns-clause-stands : goal.returns-clause-stands
returns-clause-stands c = λ h stood.
    stands-routed h c.args.self.now.kept _ c.in-Ok.made (sym c.is_waiting.ensures ∙ c.if-not-is_waiting.false) (c.in-Ok.ensures.ok c.in_ok-pieces.ensures) stood
