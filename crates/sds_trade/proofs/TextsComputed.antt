-- The worked cases of Texts, each computed from the definitions.
use Rattle.std.proofs.Common.{refl}
use Rattle.std.specs.Fmt.{digits}
use Rattle.std.specs.Str.{chars}
use lib.Utf8.{encode}
use Rattle.sds_trade.specs.worked.Texts.{KeysAreNamed, InsertsNameTheKey, ColumnsAreNamed, TextsAreRead}

pub keys_are_named : KeysAreNamed
unfolding encode digits chars
keys_are_named = (refl, refl, refl, refl, refl, refl)

pub inserts_name_the_key : InsertsNameTheKey
unfolding encode digits chars
inserts_name_the_key = (refl, refl)

pub columns_are_named : ColumnsAreNamed
unfolding encode digits chars
columns_are_named = (refl, refl, refl, refl, refl)

pub texts_are_read : TextsAreRead
unfolding encode digits chars
texts_are_read = (refl, refl, refl, refl)
