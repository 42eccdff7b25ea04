use Rattle.sds_examples.proofs.HeldLanesComputed.{errors_hold_lanes}
use Rattle.sds_examples.proofs.scenarios.errors_hold_lanes.Goals as goal

pub returns : goal.returns
returns c = record { prints = errors_hold_lanes }
