use Rattle.sds_batcher.proofs.Places.{Ascends}
use Rattle.sds_batcher.proofs.tests_batches.places.Given as goal

abbrev pub invariant-loop-place : goal.invariant-loop-place
invariant-loop-place l = Ascends l.place l.places
