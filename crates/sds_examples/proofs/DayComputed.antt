-- The worked cases of Day, each computed from the definitions.
use Rattle.std.proofs.Common.{refl}
use Rattle.std.specs.Fmt.{digits}
use Rattle.std.specs.Str.{chars}
use lib.Utf8.{encode}
use Rattle.sds_examples.specs.Day.{DayPrints}

pub day_prints : DayPrints
unfolding encode digits chars
day_prints = record { prints = refl; stands = refl }
