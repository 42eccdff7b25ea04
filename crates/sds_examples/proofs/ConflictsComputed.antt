-- The worked cases of Conflicts, each computed from the definitions.
use Rattle.std.proofs.Common.{refl}
use Rattle.std.specs.Fmt.{digits}
use Rattle.std.specs.Str.{chars}
use lib.Utf8.{encode}
use Rattle.sds_examples.specs.Conflicts.{FallbackTakes, IgnoreSkipsTheRow, IgnoreSkipsTheBatch, ManualWaits, GreaterVersionStands}

pub fallback_takes : FallbackTakes
unfolding encode digits chars
fallback_takes = record { prints = refl; stands = refl }

pub ignore_skips_the_row : IgnoreSkipsTheRow
unfolding encode digits chars
ignore_skips_the_row = record { prints = refl; stands = refl }

pub ignore_skips_the_batch : IgnoreSkipsTheBatch
unfolding encode digits chars
ignore_skips_the_batch = record { prints = refl; stands = refl }

pub manual_waits : ManualWaits
unfolding encode digits chars
manual_waits = record { prints = refl; stands = refl }

pub greater_version_stands : GreaterVersionStands
unfolding encode digits chars
greater_version_stands = record { prints = refl; stands = refl }
