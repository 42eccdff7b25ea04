use Rattle.std.specs.VecDeque.{deque_len}
use Rattle.sds_image.specs.PartsSeen.{Lead}
use Rattle.sds_image.proofs.lists.lists_of.Given as goal

abbrev pub invariant-loop-part : goal.invariant-loop-part
invariant-loop-part l = Lead l.lists l.parts.items l.fn.parts.items

abbrev pub decreases-loop-part : goal.decreases-loop-part
decreases-loop-part l = deque_len l.parts
