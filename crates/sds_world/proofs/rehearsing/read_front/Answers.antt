use Rattle.sds_world.proofs.Answering.{long_read}
use Rattle.sds_world.proofs.rehearsing.read_front.Goals as goal

pub returns-then-whole-clause-front : goal.returns-then-whole-clause-front
returns-then-whole-clause-front g c =
    long_read c.cut_off.result.items c.in_ok-whole.whole.bytes _ _ c.cut_off.ensures.front c.in_ok-whole.ensures.all (c.in_ok-whole.ensures.over c.if-whole.true)
