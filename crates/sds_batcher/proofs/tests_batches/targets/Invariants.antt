use Rattle.std.proofs.Common.{ℕ, ◌<◌}
use Rattle.std.specs.List.{All, AllPairs}
use Rattle.sds_batcher.proofs.tests_batches.targets.Given as goal

abbrev pub invariant-loop-one : goal.invariant-loop-one
invariant-loop-one l = All (AllPairs (λ (a b : ℕ). a < b)) l.targets.items
