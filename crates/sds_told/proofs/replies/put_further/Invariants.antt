use Rattle.std.proofs.Common.{◌≡◌, ◌++◌, drop, string_bytes}
use Rattle.sds_told.specs.Replies.{further_words}
use Rattle.sds_told.proofs.replies.put_further.Given as goal

abbrev pub invariant-loop-ack : goal.invariant-loop-ack
invariant-loop-ack l = string_bytes l.text ++ further_words (drop l.ack-index l.acks) ≡ string_bytes l.initial.text ++ further_words l.acks
