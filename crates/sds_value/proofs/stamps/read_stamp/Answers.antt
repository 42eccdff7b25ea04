use Rattle.std.proofs.Common.{◌∙◌}
use Rattle.sds_value.proofs.Moments.{stamp_same}
use Rattle.sds_value.proofs.stamps.read_stamp.Goals as goal

pub returns : goal.returns
returns c = c.read_day_and_time.ensures ∙ (rw c.as_bytes.ensures.value (stamp_same c.args.text.now c.utf8.text))
