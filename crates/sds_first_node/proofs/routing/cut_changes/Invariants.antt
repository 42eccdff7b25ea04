use Rattle.std.proofs.Common.{◌≡◌, ◌++◌, [], drop}
use Rattle.sds_first_node.specs.Routed.{lane_of, cut_on}
use Rattle.sds_first_node.proofs.routing.cut_changes.Given as goal

abbrev pub invariant-loop-change : goal.invariant-loop-change
invariant-loop-change l =
    l.pieces.items ++ cut_on 10000 l.piece.items l.last_tx (lane_of l.me l.peer l.routed (drop l.change-index l.changes)) ≡ cut_on 10000 [] 0 (lane_of l.me l.peer l.routed l.changes)
