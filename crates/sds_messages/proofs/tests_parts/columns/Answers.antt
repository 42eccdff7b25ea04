use Rattle.std.specs.Str.{chars}
use Rattle.sds_messages.proofs.Sound.{two_put}
use Rattle.sds_messages.proofs.tests_parts.columns.Goals as goal

pub returns : goal.returns
unfolding chars
returns c = two_put _ _ _ _ _ _ _ c.new-columns.ensures c.in_ok-push.ensures.ok c.in_ok-push-2.ensures.ok c.in_ok-column.ensures c.in_ok-column-2.ensures
