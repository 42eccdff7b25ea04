use Rattle.std.proofs.Common.{[], ◌++◌}
use Rattle.sds_batcher.specs.Lanes.{batches_to_come}
use Rattle.sds_batcher.proofs.Waits.{lane_ends, lane_goes_on}
use Rattle.sds_batcher.proofs.making.make_lane.Goals as goal

pub loop-place-preserved-then-not-ends_piece : goal.loop-place-preserved-then-not-ends_piece
loop-place-preserved-then-not-ends_piece c =
    lane_goes_on c.args.def.now c.args.channel c.args.peer c.args.lane.now c.loop-place.place
    (record { id = 0; tx = 0 }) c.loop-place.ids c.push.new.self c.loop-place.batches.items
    (c.args.batches.now.items ++ batches_to_come c.args.def.now c.args.channel c.args.peer [] c.args.lane.now)
    c.next_tx-next.result c.loop-place-test.true c.in_ok-push.ensures.ok c.next_tx-next.ensures
    (rw c.count_of-count.ensures at c.if-not-ends_piece.ensures) c.loop-place.invariant

pub loop-place-preserved : goal.loop-place-preserved
loop-place-preserved c =
    rw (c.in_ok-push-2.ensures.items, c.made_batch.ensures, c.new-ids-in-loop-place.ensures)
    (lane_ends c.args.def.now c.args.channel c.args.peer c.args.lane.now c.loop-place.place
    (record { id = 0; tx = 0 }) c.loop-place.ids c.push.new.self c.loop-place.batches.items
    (c.args.batches.now.items ++ batches_to_come c.args.def.now c.args.channel c.args.peer [] c.args.lane.now)
    c.next_tx-next.result c.loop-place-test.true c.in_ok-push.ensures.ok c.next_tx-next.ensures
    (rw c.count_of-count.ensures at c.if-not-ends_piece.ensures) c.loop-place.invariant)
