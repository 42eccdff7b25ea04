use Rattle.std.proofs.Common.{length}
use Rattle.sds_conflict.proofs.tests_rows.+has_key.Given as goal

abbrev pub decreases-has_key : goal.decreases-has_key
decreases-has_key l = length l.places.now
