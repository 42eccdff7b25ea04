use Rattle.std.proofs.Common.{length}
use Rattle.sds_rows.proofs.tests.+comes_back.Given as goal

abbrev pub decreases-comes_back : goal.decreases-comes_back
decreases-comes_back l = length l.acts.now
