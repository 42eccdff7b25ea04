-- The worked cases of Keys, each computed from the definitions.
use Rattle.std.proofs.Common.{refl}
use Rattle.std.specs.Fmt.{digits}
use Rattle.std.specs.Str.{chars}
use lib.Utf8.{encode}
use Rattle.sds_trade.specs.worked.Keys.{ListedKeyIsOnce, SpecifiedHasItsKeys, KeysAreLookedUp, KeysAreOld, EventsTakePart}

pub listed_key_is_once : ListedKeyIsOnce
unfolding encode digits chars
listed_key_is_once = refl

pub specified_has_its_keys : SpecifiedHasItsKeys
unfolding encode digits chars
specified_has_its_keys = refl

pub keys_are_looked_up : KeysAreLookedUp
unfolding encode digits chars
keys_are_looked_up = (refl, refl)

pub keys_are_old : KeysAreOld
unfolding encode digits chars
keys_are_old = refl

pub events_take_part : EventsTakePart
unfolding encode digits chars
events_take_part = (refl, refl)
