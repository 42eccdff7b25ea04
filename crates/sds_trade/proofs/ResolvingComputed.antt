-- The worked cases of Resolving, each computed from the definitions.
use Rattle.std.proofs.Common.{refl}
use Rattle.std.specs.Fmt.{digits}
use Rattle.std.specs.Str.{chars}
use lib.Utf8.{encode}
use Rattle.sds_trade.specs.worked.Resolving.{RowIsSkipped, BatchIsIgnored, ManualIsRefused, TieIsSkipped, NewerIsApplied}

pub row_is_skipped : RowIsSkipped
unfolding encode digits chars
row_is_skipped = refl

pub batch_is_ignored : BatchIsIgnored
unfolding encode digits chars
batch_is_ignored = refl

pub manual_is_refused : ManualIsRefused
unfolding encode digits chars
manual_is_refused = refl

pub tie_is_skipped : TieIsSkipped
unfolding encode digits chars
tie_is_skipped = refl

pub newer_is_applied : NewerIsApplied
unfolding encode digits chars
newer_is_applied = refl
