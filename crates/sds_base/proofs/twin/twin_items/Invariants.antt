use Rattle.std.proofs.Common.{◌≡◌, take}
use Rattle.sds_base.proofs.twin.twin_items.Given as goal

abbrev pub invariant-loop-x : goal.invariant-loop-x
invariant-loop-x g l = l.copy.items ≡ take l.x-index l.items
