-- The worked cases of Falling, each computed from the definitions.
use Rattle.std.proofs.Common.{refl}
use Rattle.std.specs.Fmt.{digits}
use Rattle.std.specs.Str.{chars}
use lib.Utf8.{encode}
use Rattle.sds_trade.specs.worked.Falling.{InsertsStand, UpdatesStand, DeletesStand, NewerVersionWins, VersionIsNeeded}

pub inserts_stand : InsertsStand
unfolding encode digits chars
inserts_stand = (refl, refl)

pub updates_stand : UpdatesStand
unfolding encode digits chars
updates_stand = (refl, refl, refl)

pub deletes_stand : DeletesStand
unfolding encode digits chars
deletes_stand = (refl, refl)

pub newer_version_wins : NewerVersionWins
unfolding encode digits chars
newer_version_wins = (refl, refl, refl, refl)

pub version_is_needed : VersionIsNeeded
unfolding encode digits chars
version_is_needed = (refl, refl, refl)
