-- The worked cases of Loading, each computed from the definitions.
use Rattle.std.proofs.Common.{refl}
use Rattle.std.specs.Fmt.{digits}
use Rattle.std.specs.Str.{chars}
use lib.Utf8.{encode}
use Rattle.sds_trade.specs.worked.Loading.{CountIsAdded, SumIsTooGreat, LessIsAdded, OldIsNeeded, ChannelIsUnknown, TextsComeFirst, ParentIsMissing}

pub count_is_added : CountIsAdded
unfolding encode digits chars
count_is_added = refl

pub sum_is_too_great : SumIsTooGreat
unfolding encode digits chars
sum_is_too_great = refl

pub less_is_added : LessIsAdded
unfolding encode digits chars
less_is_added = refl

pub old_is_needed : OldIsNeeded
unfolding encode digits chars
old_is_needed = refl

pub channel_is_unknown : ChannelIsUnknown
unfolding encode digits chars
channel_is_unknown = refl

pub texts_come_first : TextsComeFirst
unfolding encode digits chars
texts_come_first = refl

pub parent_is_missing : ParentIsMissing
unfolding encode digits chars
parent_is_missing = refl
