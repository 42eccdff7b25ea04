use Rattle.std.proofs.Common.{◌≡◌, drop}
use Rattle.std.specs.Str.{chars}
use Rattle.sds_first_spec.specs.Calls.{unknown_batch}
use Rattle.sds_first_node.proofs.acking.unknown_batch.Given as goal

abbrev pub invariant-loop-ack : goal.invariant-loop-ack
invariant-loop-ack l = unknown_batch (chars l.peer) l.batches (drop l.ack-index l.acks) ≡ unknown_batch (chars l.peer) l.batches l.acks
