use Rattle.std.proofs.Common.{ℕ, ◌<◌}
use Rattle.std.specs.List.{All, AllPairs}
use Rattle.sds_measure.proofs.routing.all_targets.Given as goal

abbrev pub invariant-loop-change : goal.invariant-loop-change
invariant-loop-change l = All (AllPairs (λ (a b : ℕ). a < b)) l.all.items
