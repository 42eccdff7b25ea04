use Rattle.std.proofs.Common.{◌≡◌, drop}
use Rattle.sds_first_spec.specs.Acks.{last_error}
use Rattle.sds_first_node.proofs.acking.last_error.Given as goal

abbrev pub invariant-loop-ack : goal.invariant-loop-ack
invariant-loop-ack l = last_error (drop l.ack-index l.acks) l.id l.standing ≡ last_error l.acks l.id l.fn.before
