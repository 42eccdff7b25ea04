use Rattle.std.proofs.Common.{None}
use Rattle.sds_first_world.proofs.Joined.{acks_put}
use Rattle.sds_first_world.proofs.text.acks_words.Goals as goal

pub returns-in-len1-up : goal.returns-in-len1-up
returns-in-len1-up c = acks_put c.args.acks.now (record { batch = 0; error = None }) _ _ c.in-len1-up.len_at_least c.in_ok-words.ensures c.in_ok-put_others.ensures
