use Rattle.std.proofs.Common.{◌≡◌, ◌+◌, ◌++◌, drop, take}
use Rattle.sds_batcher.specs.Lanes.{numbered}
use Rattle.sds_batcher.proofs.making.number_from.Given as goal

-- the batches that have their numbers, and those that are left
abbrev pub invariant-loop-place : goal.invariant-loop-place
invariant-loop-place l =
    take l.place l.batches.items ++ numbered (l.first + l.place) (drop l.place l.batches.items)
    ≡ numbered l.first l.initial.batches.items
