use Rattle.std.proofs.Common.{◌≡◌, ◌++◌, drop}
use Rattle.std.specs.Str.{chars}
use Rattle.sds_first_node.specs.Offered.{open_ids}
use Rattle.sds_first_node.proofs.offering.offered.Given as goal

abbrev pub invariant-loop-batch : goal.invariant-loop-batch
invariant-loop-batch l = l.ids.items ++ open_ids l.left (chars l.to) (drop l.batch-index l.batches) ≡ open_ids 10000 (chars l.to) l.batches
