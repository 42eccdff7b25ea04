use Rattle.std.proofs.Common.{◌≡◌, drop}
use Rattle.sds_first_spec.specs.Lanes.{batch_at}
use Rattle.sds_first_node.proofs.offering.batch_at.Given as goal

abbrev pub invariant-loop-batch : goal.invariant-loop-batch
invariant-loop-batch l = batch_at l.id (drop l.batch-index l.batches) ≡ batch_at l.id l.batches
