use Rattle.sds_first_node.proofs.Updates.{overwritten_all}
use Rattle.sds_first_node.proofs.loading.overwrite.Goals as goal

pub returns-then-place-kept : goal.returns-then-place-kept
returns-then-place-kept c = overwritten_all _ _ _ _ c.if-place-kept.true c.loop-place.invariant
