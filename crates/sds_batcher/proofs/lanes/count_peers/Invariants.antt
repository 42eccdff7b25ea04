use Rattle.std.proofs.Common.{◌≡◌, ℕ, ◌+◌, List, drop, map}
use Rattle.std.specs.Prelude.{max}
use Rattle.std.specs.List.{flat_map, fold, zip}
use Rattle.sds_types.specs.declared.row.Change.{Change}
use Rattle.sds_trade.specs.rules.Batches.{peers_named}
use Rattle.sds_batcher.proofs.lanes.count_peers.Given as goal

-- the count so far goes on as the whole one does
abbrev pub invariant-loop-place : goal.invariant-loop-place
invariant-loop-place l =
    fold max l.count (map (λ (target : ℕ). target + 1)
    (flat_map (λ (at : Change × List ℕ). at.1) (zip (drop l.place l.changes) (drop l.place l.targets))))
    ≡ peers_named (zip l.changes l.targets)
