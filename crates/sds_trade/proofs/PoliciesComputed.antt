-- The worked cases of Policies, each computed from the definitions.
use Rattle.std.proofs.Common.{refl}
use Rattle.std.specs.Fmt.{digits}
use Rattle.std.specs.Str.{chars}
use lib.Utf8.{encode}
use Rattle.sds_trade.specs.worked.Policies.{SpecifiedMakesItsColumns, AbsentOldIsTheKey, ImpliedKeepsPlaces, KeysRemain, DeletesBecome}

pub specified_makes_its_columns : SpecifiedMakesItsColumns
unfolding encode digits chars
specified_makes_its_columns = (refl, refl, refl)

pub absent_old_is_the_key : AbsentOldIsTheKey
unfolding encode digits chars
absent_old_is_the_key = (refl, refl)

pub implied_keeps_places : ImpliedKeepsPlaces
unfolding encode digits chars
implied_keeps_places = (refl, refl)

pub keys_remain : KeysRemain
unfolding encode digits chars
keys_remain = (refl, refl)

pub deletes_become : DeletesBecome
unfolding encode digits chars
deletes_become = (refl, refl, refl, refl, refl)
