use Rattle.std.proofs.Common.{◌≡◌}
use Rattle.sds_measure.proofs.listing.Listing.put_batches.Given as goal

abbrev pub invariant-loop-turn : goal.invariant-loop-turn
invariant-loop-turn l = l.reader.lines ≡ l.initial.reader.lines
