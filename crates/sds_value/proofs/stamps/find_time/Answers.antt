use Rattle.sds_value.proofs.Moments.{fraction_digits}
use Rattle.sds_value.proofs.stamps.find_time.Goals as goal

pub find_subsecond-nano-requires : goal.find_subsecond-nano-requires
find_subsecond-nano-requires c = rw c.behind.ensures (fraction_digits c.args.bytes.now c.requires)
