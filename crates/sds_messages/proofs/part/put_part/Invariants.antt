use Rattle.std.proofs.Common.{◌≤◌, drop}
use Rattle.std.specs.Str.{chars}
use Rattle.sds_image.specs.Meaning.{meaning_of}
use Rattle.sds_messages.proofs.Puts.{Puts}
use Rattle.sds_messages.proofs.part.put_part.Given as goal

-- the batches so far and those that go after them are all of the lane that go
abbrev pub invariant-loop-batch : goal.invariant-loop-batch
invariant-loop-batch l = (l.count ≤ l.batch-index)
    × Puts l.config (meaning_of l.state) (chars l.to) l.channel l.def.max_batch_to_send l.batch-items (drop l.batch-index l.batch-items) l.fn.out.items l.count l.out.items
