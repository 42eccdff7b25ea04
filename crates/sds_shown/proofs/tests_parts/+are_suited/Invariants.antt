use Rattle.std.proofs.Common.{length}
use Rattle.sds_shown.proofs.tests_parts.+are_suited.Given as goal

abbrev pub decreases-are_suited : goal.decreases-are_suited
decreases-are_suited l = length l.columns.now
