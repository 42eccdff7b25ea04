-- The worked cases of Capturing, each computed from the definitions.
use Rattle.std.proofs.Common.{refl}
use Rattle.std.specs.Fmt.{digits}
use Rattle.std.specs.Str.{chars}
use lib.Utf8.{encode}
use Rattle.sds_trade.specs.worked.Capturing.{GroupsCapture, EventsCapture, ChangesAreNumbered}

pub groups_capture : GroupsCapture
unfolding encode digits chars
groups_capture = (refl, refl, refl, refl, refl, refl)

pub events_capture : EventsCapture
unfolding encode digits chars
events_capture = (refl, refl, refl, refl, refl, refl, refl)

pub changes_are_numbered : ChangesAreNumbered
unfolding encode digits chars
changes_are_numbered = refl
