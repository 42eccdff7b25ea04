use Rattle.std.proofs.Common.{◌≡◌, ◌+◌, ◌++◌, drop}
use Rattle.sds_batcher.specs.Ends.{cuts_to_come}
use Rattle.sds_batcher.proofs.cutting.cut.Given as goal

-- the pieces so far and those to come are all of them
abbrev pub invariant-loop-place : goal.invariant-loop-place
invariant-loop-place l = (l.first + l.count ≡ l.place)
    × (l.cuts.items ++ cuts_to_come l.algorithm l.max l.first l.count (drop l.place l.txs)
    ≡ cuts_to_come l.algorithm l.max 0 0 l.txs)
