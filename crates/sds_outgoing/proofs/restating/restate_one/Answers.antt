use Rattle.std.proofs.Common.{arith}
use Rattle.sds_outgoing.proofs.Turns.{set_is, set_past}
use Rattle.sds_outgoing.proofs.restating.restate_one.Goals as goal

pub returns-then-restated-len : goal.returns-then-restated-len
returns-then-restated-len c = set_is c.args.restated.standing c.args.restated.place c.args.batches.now.items c.index_mut.result.now (omega arith) c.index_mut.ensures.value

pub returns-else-restated-len : goal.returns-else-restated-len
returns-else-restated-len c = set_past c.args.restated.standing c.args.restated.place c.args.batches.now.items (omega arith)
