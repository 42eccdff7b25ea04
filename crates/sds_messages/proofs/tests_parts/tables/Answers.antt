use Rattle.std.specs.Str.{chars}
use Rattle.sds_messages.proofs.Sound.{two_put}
use Rattle.sds_messages.proofs.tests_parts.tables.Goals as goal

pub returns : goal.returns
unfolding chars
returns c = two_put _ _ _ _ _ _ _ c.new-tables.ensures c.in_ok-push.ensures.ok c.in_ok-push-2.ensures.ok c.in_ok-table.ensures c.in_ok-table-2.ensures
