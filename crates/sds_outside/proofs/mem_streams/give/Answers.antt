use Rattle.sds_outside.proofs.Pieces.{given_part}
use Rattle.sds_outside.proofs.mem_streams.give.Goals as goal

pub returns-clause-took : goal.returns-clause-took
returns-clause-took c = given_part _ _ _ _ _ c.split_at.ensures.back c.fill-count.ensures.bytes
