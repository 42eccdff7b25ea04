use Rattle.std.specs.Str.{chars}
use Rattle.sds_received.proofs.Sound.{two_put}
use Rattle.sds_received.proofs.tests.channels.Goals as goal

pub returns : goal.returns
unfolding chars
returns c = two_put _ _ _ _ _ _ _ c.new-channels.ensures c.in_ok-push.ensures.ok c.in_ok-push-2.ensures.ok c.in_ok-channel.ensures c.in_ok-channel-2.ensures
