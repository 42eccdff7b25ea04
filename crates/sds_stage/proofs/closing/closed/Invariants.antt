use Rattle.std.proofs.Common.{◌≡◌, ◌++◌, map}
use Rattle.std.specs.VecDeque.{deque_len}
use Rattle.sds_stage.specs.Keeping.{keeper_of}
use Rattle.sds_stage.proofs.closing.closed.Given as goal

abbrev pub invariant-loop-node : goal.invariant-loop-node
invariant-loop-node l = l.keepers.items ++ map keeper_of l.nodes.items ≡ map keeper_of l.fn.nodes.items

abbrev pub decreases-loop-node : goal.decreases-loop-node
decreases-loop-node l = deque_len l.nodes
