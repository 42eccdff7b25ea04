use Rattle.std.proofs.Common.{◌≡◌, drop}
use Rattle.sds_first_spec.specs.Lanes.{change_at}
use Rattle.sds_first_node.proofs.offering.change_at.Given as goal

abbrev pub invariant-loop-change : goal.invariant-loop-change
invariant-loop-change l = change_at l.id (drop l.change-index l.changes) ≡ change_at l.id l.changes
