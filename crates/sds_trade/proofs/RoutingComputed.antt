-- The worked cases of Routing, each computed from the definitions.
use Rattle.std.proofs.Common.{refl}
use Rattle.std.specs.Fmt.{digits}
use Rattle.std.specs.Str.{chars}
use lib.Utf8.{encode}
use Rattle.sds_trade.specs.worked.Routing.{OwnGoesToAll, NoPingBack, PingBack, NamedOnce, DisabledNamesNone, NobodyIsNamed, ChannelsGoInOrder, LanesAreApart}

pub own_goes_to_all : OwnGoesToAll
unfolding encode digits chars
own_goes_to_all = refl

pub no_ping_back : NoPingBack
unfolding encode digits chars
no_ping_back = refl

pub ping_back : PingBack
unfolding encode digits chars
ping_back = refl

pub named_once : NamedOnce
unfolding encode digits chars
named_once = refl

pub disabled_names_none : DisabledNamesNone
unfolding encode digits chars
disabled_names_none = refl

pub nobody_is_named : NobodyIsNamed
unfolding encode digits chars
nobody_is_named = refl

pub channels_go_in_order : ChannelsGoInOrder
unfolding encode digits chars
channels_go_in_order = refl

pub lanes_are_apart : LanesAreApart
unfolding encode digits chars
lanes_are_apart = refl
