use Rattle.std.proofs.Common.{◌≡◌, ◌+◌, ◌≤◌, drop}
use Rattle.sds_first_node.specs.Standings.{differing}
use Rattle.sds_first_node.proofs.acking.count_changed.Given as goal

abbrev pub invariant-loop-place : goal.invariant-loop-place
invariant-loop-place l = record {
  so_far : l.count + differing (drop l.place l.batches) (drop l.place l.standings) ≡ differing l.batches l.standings;
  few : l.count ≤ l.place;
}
