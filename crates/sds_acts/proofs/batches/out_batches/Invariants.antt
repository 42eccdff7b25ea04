use Rattle.std.proofs.Common.{◌≡◌, ◌++◌, drop, map}
use Rattle.sds_history.specs.history.Made.{out_batch}
use Rattle.sds_acts.proofs.batches.out_batches.Given as goal

abbrev pub invariant-loop-batch : goal.invariant-loop-batch
invariant-loop-batch l = l.batches.items ++ map (out_batch l.peers) (drop l.batch-index l.made) ≡ map (out_batch l.peers) l.made
