use Rattle.std.proofs.Common.{◌≡◌, ◌≤◌, ◌++◌, drop, filter}
use Rattle.std.specs.Str.{chars}
use Rattle.sds_outgoing.specs.Offering.{ids_of, is_waiting, offered_after}
use Rattle.sds_outgoing.proofs.offers.offer_lane.Given as goal

-- the batches so far and those that go after them are all of the lane that go
abbrev pub invariant-loop-batch : goal.invariant-loop-batch
invariant-loop-batch l = (l.count ≤ l.batch-index)
    × (l.ids.items ++ ids_of (offered_after l.def.max_batch_to_send l.count (filter (is_waiting (chars l.to) l.channel) (drop l.batch-index l.batch-items)))
    ≡ l.fn.ids.items ++ ids_of (offered_after l.def.max_batch_to_send 0 (filter (is_waiting (chars l.to) l.channel) l.batch-items)))
