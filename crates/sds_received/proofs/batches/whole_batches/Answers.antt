use Rattle.std.proofs.Common.{[], false}
use Rattle.sds_received.proofs.Taking.{whole}
use Rattle.sds_received.proofs.batches.whole_batches.Goals as goal

pub returns : goal.returns
returns c =
    whole c.args.text.now c.finish.new.self c.rest_of.result
    (c.in_ok-finish.ensures.read c.args.text.now [] false (c.in_ok-feed.ensures.read [] [] c.new-reader.ensures.read)).1 c.rest_of.ensures
