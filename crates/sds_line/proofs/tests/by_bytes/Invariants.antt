use Rattle.std.proofs.Common.{◌≡◌, ◌≤◌, ◌+◌, false}
use Rattle.sds_line.specs.Splitting.{reach, is_finished}
use Rattle.sds_line.proofs.tests.by_bytes.Given as goal

abbrev pub invariant-loop-byte : goal.invariant-loop-byte
invariant-loop-byte l = (is_finished l.lines.phase ≡ false) × (reach l.lines.split ≤ 1 + l.byte-index)
