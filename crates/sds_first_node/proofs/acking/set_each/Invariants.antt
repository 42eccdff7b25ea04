use Rattle.std.proofs.Common.{◌≡◌, ◌++◌, take, drop}
use Rattle.sds_first_node.specs.Standings.{with_standings}
use Rattle.sds_first_node.proofs.acking.set_each.Given as goal

abbrev pub invariant-loop-place : goal.invariant-loop-place
invariant-loop-place l = take l.place l.batches ++ with_standings (drop l.place l.batches) (drop l.place l.standings) ≡ with_standings l.initial.batches l.standings
