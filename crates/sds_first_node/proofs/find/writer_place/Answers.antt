use Rattle.std.proofs.Common.{sym, ◌∙◌}
use Rattle.sds_first_node.proofs.Found.{writer_at}
use Rattle.sds_first_node.proofs.find.writer_place.Goals as goal

pub returns-then-is : goal.returns-then-is
returns-then-is c = writer_at _ _ _ _ c.loop-place-test.true c.index-lasts-place.is (sym c.is.ensures ∙ c.if-is.true) c.loop-place.invariant.found c.loop-place.invariant.put
