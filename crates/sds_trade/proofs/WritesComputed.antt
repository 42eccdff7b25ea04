-- The worked cases of Writes, each computed from the definitions.
use Rattle.std.proofs.Common.{refl}
use Rattle.std.specs.Fmt.{digits}
use Rattle.std.specs.Str.{chars}
use lib.Utf8.{encode}
use Rattle.sds_trade.specs.worked.Writes.{SecondKey, LostUpdate, SaleOfNothing, DeleteOfSold, SoldKeepsKey, KeyChanges, NullName, BadKey, ShortRow, NoTable, NullKey, SecondRow, FirstOfTwo, MissingGivesNull, MissingTakesKey, KeyBecomesNull}

pub second_key : SecondKey
unfolding encode digits chars
second_key = refl

pub lost_update : LostUpdate
unfolding encode digits chars
lost_update = refl

pub sale_of_nothing : SaleOfNothing
unfolding encode digits chars
sale_of_nothing = refl

pub delete_of_sold : DeleteOfSold
unfolding encode digits chars
delete_of_sold = refl

pub sold_keeps_key : SoldKeepsKey
unfolding encode digits chars
sold_keeps_key = refl

pub key_changes : KeyChanges
unfolding encode digits chars
key_changes = refl

pub null_name : NullName
unfolding encode digits chars
null_name = refl

pub bad_key : BadKey
unfolding encode digits chars
bad_key = refl

pub short_row : ShortRow
unfolding encode digits chars
short_row = refl

pub no_table : NoTable
unfolding encode digits chars
no_table = refl

pub null_key : NullKey
unfolding encode digits chars
null_key = refl

pub second_row : SecondRow
unfolding encode digits chars
second_row = refl

pub first_of_two : FirstOfTwo
unfolding encode digits chars
first_of_two = refl

pub missing_gives_null : MissingGivesNull
unfolding encode digits chars
missing_gives_null = refl

pub missing_takes_key : MissingTakesKey
unfolding encode digits chars
missing_takes_key = refl

pub key_becomes_null : KeyBecomesNull
unfolding encode digits chars
key_becomes_null = refl
