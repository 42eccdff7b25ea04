use Rattle.std.specs.Prelude.{◌≡◌, length}
use Rattle.symds.specs.Words.{without_zeros}
use Rattle.symds.proofs.words.without_zeros.Given as goal

abbrev pub invariant-loop-rest : goal.invariant-loop-rest
invariant-loop-rest l = without_zeros l.rest ≡ without_zeros l.initial.text

abbrev pub decreases-loop-rest : goal.decreases-loop-rest
decreases-loop-rest l = length l.rest
