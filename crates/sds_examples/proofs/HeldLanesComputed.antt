-- The worked cases of HeldLanes, each computed from the definitions.
use Rattle.std.proofs.Common.{refl}
use Rattle.std.specs.Fmt.{digits}
use Rattle.std.specs.Str.{chars}
use lib.Utf8.{encode}
use Rattle.sds_examples.specs.HeldLanes.{ErrorsHoldLanes}

pub errors_hold_lanes : ErrorsHoldLanes
unfolding encode digits chars
errors_hold_lanes = record { prints = refl; stands = refl }
