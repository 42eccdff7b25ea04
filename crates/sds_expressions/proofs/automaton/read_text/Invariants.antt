use Rattle.std.proofs.Common.{◌≡◌, drop}
use Rattle.sds_expressions.specs.Automaton.{run}
use Rattle.sds_expressions.proofs.automaton.read_text.Given as goal

-- the characters that are left are read from the state that those before led to
abbrev pub invariant-loop-place : goal.invariant-loop-place
invariant-loop-place g l = run g.A.Automaton.step g.A.Automaton.finish l.place l.state (drop l.place l.text) ≡ run g.A.Automaton.step g.A.Automaton.finish 0 l.fn.first l.text
