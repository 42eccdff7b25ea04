use Rattle.std.proofs.Common.{All, drop}
use Rattle.sds_imagelaws.specs.Widths.{IsHeldAck}
use Rattle.sds_stage.proofs.answering.acks_are_held.Given as goal

-- where the acks that are left are held, all are
abbrev pub invariant-loop-ack : goal.invariant-loop-ack
invariant-loop-ack l = All IsHeldAck (drop l.ack-index l.acks) → All IsHeldAck l.acks
