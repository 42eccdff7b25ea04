use Rattle.sds_value.proofs.Moments.{too_short}
use Rattle.sds_value.proofs.stamps.begins_like.Goals as goal

pub returns-in_default : goal.returns-in_default
returns-in_default c = too_short c.args.pattern.now c.args.bytes.now c.loop-i.i _ c.loop-i-test.true c.in_default.ensures.lookup.3 c.loop-i.invariant
