use Rattle.std.proofs.Common.{◌≡◌, ◌++◌, drop, length}
use Rattle.sds_first_node.specs.Standings.{standings_of}
use Rattle.sds_first_node.proofs.acking.standings_after.Given as goal

abbrev pub invariant-loop-batch : goal.invariant-loop-batch
invariant-loop-batch l = record {
  so_far : l.standings.items ++ standings_of l.acks l.batches (drop l.batch-index l.batches) ≡ standings_of l.acks l.batches l.batches;
  len : length l.standings.items ≡ l.batch-index;
}
