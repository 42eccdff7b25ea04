use Rattle.std.proofs.Common.{◌≡◌, drop}
use Rattle.sds_first_spec.specs.Acks.{is_acked_by}
use Rattle.sds_first_node.proofs.acking.is_acked_by.Given as goal

abbrev pub invariant-loop-ack : goal.invariant-loop-ack
invariant-loop-ack l = is_acked_by l.batches (drop l.ack-index l.acks) l.batch ≡ is_acked_by l.batches l.acks l.batch
