use Rattle.std.proofs.Common.{◌≡◌, ◌+◌, ◌++◌, take, drop}
use Rattle.sds_first_node.specs.NewRows.{first_taken}
use Rattle.sds_first_node.proofs.writing.first_taken.Given as goal

abbrev pub invariant-loop-place : goal.invariant-loop-place
invariant-loop-place l = first_taken (l.place + 1) (l.tables ++ take l.place l.rows) (drop l.place l.rows) ≡ first_taken 1 l.tables l.rows
