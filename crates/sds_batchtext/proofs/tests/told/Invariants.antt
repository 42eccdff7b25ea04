use Rattle.std.proofs.Common.{◌≡◌, ◌<◌, ◌+◌, ◌^◌, false, length}
use Rattle.sds_line.specs.Splitting.{reach, is_finished}
use Rattle.sds_batchtext.proofs.tests.told.Given as goal

abbrev pub invariant-loop-rest : goal.invariant-loop-rest
invariant-loop-rest l = (is_finished l.reader.lines.phase ≡ false) × (reach l.reader.lines.split + length l.rest < 2 ^ 63)

abbrev pub decreases-loop-rest : goal.decreases-loop-rest
decreases-loop-rest l = length l.rest
