use Rattle.std.proofs.Common.{◌≡◌, ◌≤◌, ◌+◌, ◌*◌, false}
use Rattle.sds_line.specs.Splitting.{reach, is_finished}
use Rattle.sds_measure.proofs.measures.read_batches.Given as goal

abbrev pub invariant-loop-turn : goal.invariant-loop-turn
invariant-loop-turn l = (is_finished l.reader.lines.phase ≡ false) × (reach l.reader.lines.split ≤ 2000000 + l._turn * 1000000)
