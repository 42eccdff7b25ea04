use Rattle.std.proofs.Common.{◌≡◌, ◌++◌, drop}
use Rattle.std.specs.Prelude.{string_bytes}
use Rattle.sds_first_world.specs.Acking.{others_words}
use Rattle.sds_first_world.proofs.text.put_others.Given as goal

abbrev pub invariant-loop-ack : goal.invariant-loop-ack
invariant-loop-ack l = string_bytes l.words ++ others_words (drop l.ack-index l.acks) ≡ string_bytes l.initial.words ++ others_words l.acks
