use Rattle.std.proofs.Common.{None}
use Rattle.sds_told.proofs.Joined.{acks_put}
use Rattle.sds_told.proofs.replies.reply_text.Goals as goal

pub returns : goal.returns
returns c = acks_put c.args.acks.now (record { batch = 0; error = None }) _ _ c.in-len1-up.len_at_least c.in_ok-text.ensures c.in_ok-put_further.ensures
