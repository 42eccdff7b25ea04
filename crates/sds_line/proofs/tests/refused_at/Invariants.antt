use Rattle.std.proofs.Common.{◌≡◌, ◌≤◌, ◌+◌, false}
use Rattle.sds_line.specs.Splitting.{reach, is_finished}
use Rattle.sds_line.proofs.tests.refused_at.Given as goal

abbrev pub invariant-loop-place : goal.invariant-loop-place
invariant-loop-place l = (is_finished l.lines.phase ≡ false) × (reach l.lines.split ≤ 1 + l.place)
