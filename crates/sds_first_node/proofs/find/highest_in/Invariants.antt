use Rattle.std.proofs.Common.{◌≡◌, drop}
use Rattle.std.specs.Str.{chars}
use Rattle.sds_first_spec.specs.Kept.{highest_in}
use Rattle.sds_first_node.proofs.find.highest_in.Given as goal

abbrev pub invariant-loop-lane : goal.invariant-loop-lane
invariant-loop-lane l = highest_in (chars l.peer) l.channel (drop l.lane-index l.lanes) ≡ highest_in (chars l.peer) l.channel l.lanes
