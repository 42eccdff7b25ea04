-- The worked cases of References, each computed from the definitions.
use Rattle.std.proofs.Common.{refl}
use Rattle.std.specs.Fmt.{digits}
use Rattle.std.specs.Str.{chars}
use lib.Utf8.{encode}
use Rattle.sds_trade.specs.worked.References.{OthersMayGo, TablesAreApart, MissingIsMissing, SoldMayChange}

pub others_may_go : OthersMayGo
unfolding encode digits chars
others_may_go = (refl, refl)

pub tables_are_apart : TablesAreApart
unfolding encode digits chars
tables_are_apart = refl

pub missing_is_missing : MissingIsMissing
unfolding encode digits chars
missing_is_missing = (refl, refl)

pub sold_may_change : SoldMayChange
unfolding encode digits chars
sold_may_change = refl
