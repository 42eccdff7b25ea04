use Rattle.std.proofs.Common.{length}
use Rattle.sds_first_world.proofs.forms.+are.Given as goal

abbrev pub decreases-are : goal.decreases-are
decreases-are l = length l.fields.now
