use Rattle.std.proofs.Common.{◌≡◌, ◌++◌, drop, map, take}
use Rattle.std.specs.Str.{chars}
use Rattle.sds_history.specs.history.Openings.{closed_for}
use Rattle.sds_registry.proofs.openings.close_openings.Given as goal

-- those so far are closed for the peer, and with the rest they are all of them
abbrev pub invariant-loop-opening : goal.invariant-loop-opening
invariant-loop-opening l =
    take l.opening-index l.opening-items ++ map (closed_for (chars l.peer)) (drop l.opening-index l.opening-items)
    ≡ map (closed_for (chars l.peer)) l.fn.openings.items
