-- The repeated, refused and empty cases, each computed from the definitions.
use Rattle.std.proofs.Common.{refl}
use Rattle.std.specs.Fmt.{digits}
use Rattle.std.specs.Str.{chars}
use lib.Utf8.{encode}
use Rattle.sds_first_spec.specs.Worked.{RepeatChangesNothing, RegisterAgainIsNothing, LastNumberIsAgain, EarlierIsOld, SkippedIsGap, KeyTwiceIsRefused, NoRowsIsDone, StoreCapturesNothing, CountersEnd, RoutedIsDone, StoreRoutesNothing, LoadedIsAgain, SentRowIsWhole, StandingRowIsUpdated, StrangerIsRefused, UnknownBatchIsRefused, ErrorAfterOkIsNothing, ErrorEndsOffer, LaterOkTakesBoth, NothingPrintsNothing, EmptyTableIsItsName, TextsAreEscaped, KeysGoByNumber}

pub repeat_changes_nothing : RepeatChangesNothing
unfolding encode digits chars
repeat_changes_nothing = (refl, refl)

pub register_again_is_nothing : RegisterAgainIsNothing
unfolding encode digits chars
register_again_is_nothing = refl

pub last_number_is_again : LastNumberIsAgain
unfolding encode digits chars
last_number_is_again = (refl, refl)

pub earlier_is_old : EarlierIsOld
unfolding encode digits chars
earlier_is_old = (refl, refl)

pub skipped_is_gap : SkippedIsGap
unfolding encode digits chars
skipped_is_gap = (refl, refl)

pub key_twice_is_refused : KeyTwiceIsRefused
unfolding encode digits chars
key_twice_is_refused = refl

pub no_rows_is_done : NoRowsIsDone
unfolding encode digits chars
no_rows_is_done = refl

pub store_captures_nothing : StoreCapturesNothing
unfolding encode digits chars
store_captures_nothing = refl

pub counters_end : CountersEnd
unfolding encode digits chars
counters_end = (refl, refl)

pub routed_is_done : RoutedIsDone
unfolding encode digits chars
routed_is_done = (refl, refl)

pub store_routes_nothing : StoreRoutesNothing
unfolding encode digits chars
store_routes_nothing = (refl, refl)

pub loaded_is_again : LoadedIsAgain
unfolding encode digits chars
loaded_is_again = (refl, refl)

pub sent_row_is_whole : SentRowIsWhole
unfolding encode digits chars
sent_row_is_whole = (refl, refl)

pub standing_row_is_updated : StandingRowIsUpdated
unfolding encode digits chars
standing_row_is_updated = refl

pub stranger_is_refused : StrangerIsRefused
unfolding encode digits chars
stranger_is_refused = refl

pub unknown_batch_is_refused : UnknownBatchIsRefused
unfolding encode digits chars
unknown_batch_is_refused = refl

pub error_after_ok_is_nothing : ErrorAfterOkIsNothing
unfolding encode digits chars
error_after_ok_is_nothing = (refl, refl)

pub error_ends_offer : ErrorEndsOffer
unfolding encode digits chars
error_ends_offer = (refl, refl, refl)

pub later_ok_takes_both : LaterOkTakesBoth
unfolding encode digits chars
later_ok_takes_both = (refl, refl, refl)

pub nothing_prints_nothing : NothingPrintsNothing
nothing_prints_nothing w = refl

pub empty_table_is_its_name : EmptyTableIsItsName
unfolding encode digits chars
empty_table_is_its_name = refl

pub texts_are_escaped : TextsAreEscaped
unfolding encode digits chars
texts_are_escaped = (refl, refl)

pub keys_go_by_number : KeysGoByNumber
unfolding encode digits chars
keys_go_by_number = refl
