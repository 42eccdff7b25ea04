-- The worked cases of Batched, each computed from the definitions.
use Rattle.std.proofs.Common.{refl}
use Rattle.std.specs.Fmt.{digits}
use Rattle.std.specs.Str.{chars}
use lib.Utf8.{encode}
use Rattle.sds_trade.specs.worked.Batched.{BatchesAreKnown, RowsAreNumbered, InsertsNameKeys, ColumnsInAnyOrder, BatchesAreCaptured, PricesAreAdded}

pub batches_are_known : BatchesAreKnown
unfolding encode digits chars
batches_are_known = (refl, refl, refl, refl)

pub rows_are_numbered : RowsAreNumbered
unfolding encode digits chars
rows_are_numbered = refl

pub inserts_name_keys : InsertsNameKeys
unfolding encode digits chars
inserts_name_keys = (refl, refl, refl, refl)

pub columns_in_any_order : ColumnsInAnyOrder
unfolding encode digits chars
columns_in_any_order = refl

pub batches_are_captured : BatchesAreCaptured
unfolding encode digits chars
batches_are_captured = (refl, refl)

pub prices_are_added : PricesAreAdded
unfolding encode digits chars
prices_are_added = refl
