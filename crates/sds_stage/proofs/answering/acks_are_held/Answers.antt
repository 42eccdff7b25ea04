use Rattle.std.proofs.Common.{None}
use Rattle.sds_imagelaws.specs.Widths.{IsHeldAck}
use Rattle.sds_stage.proofs.Messaged.{all_left, with_one}
use Rattle.sds_stage.proofs.answering.acks_are_held.Goals as goal

pub loop-ack-preserved : goal.loop-ack-preserved
loop-ack-preserved c = λ left. c.loop-ack.invariant (with_one IsHeldAck c.args.acks.now c.loop-ack.ack-index (record { batch = 0; error = None }) c.loop-ack-test.true c.ack_is_held.ensures left)

pub returns : goal.returns
returns c = c.loop-ack.invariant (all_left IsHeldAck c.args.acks.now c.loop-ack.ack-index c.loop-ack-test.false)
