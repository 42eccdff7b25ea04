use Rattle.sds_line.proofs.Taken.{answer_next}
use Rattle.sds_line.proofs.lines.Lines.next.Goals as goal

pub returns-clause-answers : goal.returns-clause-answers
returns-clause-answers c = λ text taken finished f.
    answer_next c.args.self.now c.settle.new.self c.self.inside.phase c.self.inside.splitter c.next.new.self c.next.result text taken finished
    c.in_ok-settle.ensures.ok.0 c.in_ok-settle.ensures.ok.1 c.in_ok-settle.ensures.ok.2 c.self.view_is c.next.ensures.answer c.next.ensures.taken c.next.ensures.memory f
