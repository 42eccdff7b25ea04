use Rattle.std.proofs.Common.{◌≡◌}
use Rattle.std.specs.Prelude.{replicate}
use Rattle.sds_measure.specs.Sample.{sample_row}
use Rattle.sds_measure.proofs.sample.rows.Given as goal

abbrev pub invariant-loop-turn : goal.invariant-loop-turn
invariant-loop-turn l = l.rows ≡ replicate l._turn sample_row
