-- The worked cases of Detecting, each computed from the definitions.
use Rattle.std.proofs.Common.{refl}
use Rattle.std.specs.Fmt.{digits}
use Rattle.std.specs.Str.{chars}
use lib.Utf8.{encode}
use Rattle.sds_trade.specs.worked.Detecting.{ByKey, ByOld, ByChanged, ByVersion}

pub by_key : ByKey
unfolding encode digits chars
by_key = (refl, refl, refl, refl, refl)

pub by_old : ByOld
unfolding encode digits chars
by_old = (refl, refl, refl, refl, refl)

pub by_changed : ByChanged
unfolding encode digits chars
by_changed = (refl, refl, refl, refl)

pub by_version : ByVersion
unfolding encode digits chars
by_version = (refl, refl, refl, refl)
