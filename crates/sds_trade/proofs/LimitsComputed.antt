-- The worked cases of Limits, each computed from the definitions.
use Rattle.std.proofs.Common.{refl}
use Rattle.std.specs.Fmt.{digits}
use Rattle.std.specs.Str.{chars}
use lib.Utf8.{encode}
use Rattle.sds_trade.specs.worked.Limits.{CaptureIsFull, UncapturedIsTaken}

pub capture_is_full : CaptureIsFull
unfolding encode digits chars
capture_is_full = refl

pub uncaptured_is_taken : UncapturedIsTaken
unfolding encode digits chars
uncaptured_is_taken = refl
