-- The worked cases of Cutting, each computed from the definitions.
use Rattle.std.proofs.Common.{refl}
use Rattle.std.specs.Fmt.{digits}
use Rattle.std.specs.Str.{chars}
use lib.Utf8.{encode}
use Rattle.sds_trade.specs.worked.Cutting.{WholeTransactions, FullBatches, EachTransaction, NothingIsCut, PlacesAndCounts}

pub whole_transactions : WholeTransactions
unfolding encode digits chars
whole_transactions = refl

pub full_batches : FullBatches
unfolding encode digits chars
full_batches = refl

pub each_transaction : EachTransaction
unfolding encode digits chars
each_transaction = refl

pub nothing_is_cut : NothingIsCut
unfolding encode digits chars
nothing_is_cut = (refl, refl, refl)

pub places_and_counts : PlacesAndCounts
unfolding encode digits chars
places_and_counts = refl
