-- The worked cases of Columns, each computed from the definitions.
use Rattle.std.proofs.Common.{refl}
use Rattle.std.specs.Fmt.{digits}
use Rattle.std.specs.Str.{chars}
use lib.Utf8.{encode}
use Rattle.sds_trade.specs.worked.Columns.{Copies, Substrings, Lefts, Maps, OfNull}

pub copies : Copies
unfolding encode digits chars
copies = (refl, refl)

pub substrings : Substrings
unfolding encode digits chars
substrings = (refl, refl, refl, refl, refl)

pub lefts : Lefts
unfolding encode digits chars
lefts = (refl, refl)

pub maps : Maps
unfolding encode digits chars
maps = (refl, refl, refl, refl)

pub of_null : OfNull
unfolding encode digits chars
of_null = (refl, refl, refl, refl, refl, refl)
