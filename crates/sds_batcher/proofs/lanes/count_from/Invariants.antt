use Rattle.std.proofs.Common.{◌≡◌, ℕ, ◌+◌, drop, map}
use Rattle.std.specs.Prelude.{max}
use Rattle.std.specs.List.{fold}
use Rattle.sds_batcher.proofs.lanes.count_from.Given as goal

-- the count so far goes on as the whole one does
abbrev pub invariant-loop-place : goal.invariant-loop-place
invariant-loop-place l =
    fold max l.most (map (λ (place : ℕ). place + 1) (drop l.place-index l.places))
    ≡ fold max l.initial.count (map (λ (place : ℕ). place + 1) l.places)
