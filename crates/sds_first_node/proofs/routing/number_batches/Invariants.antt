use Rattle.std.proofs.Common.{◌≡◌, ◌<◌, ◌+◌, ◌^◌, ◌++◌}
use Rattle.std.specs.VecDeque.{deque_len}
use Rattle.sds_first_node.specs.Routed.{out_batches}
use Rattle.sds_first_node.proofs.routing.number_batches.Given as goal

abbrev pub invariant-loop-changes : goal.invariant-loop-changes
invariant-loop-changes l = record {
  room : l.id + deque_len l.pieces < 2 ^ 63;
  rest : l.batches.items ++ out_batches l.id l.peer l.pieces.items ≡ out_batches l.first l.peer l.initial.pieces.items;
}

abbrev pub decreases-loop-changes : goal.decreases-loop-changes
decreases-loop-changes l = deque_len l.pieces
