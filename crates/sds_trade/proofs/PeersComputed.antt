-- The worked cases of Peers, each computed from the definitions.
use Rattle.std.proofs.Common.{refl}
use Rattle.std.specs.Fmt.{digits}
use Rattle.std.specs.Str.{chars}
use lib.Utf8.{encode}
use Rattle.sds_trade.specs.worked.Peers.{TriggersTell, GroupsTell, ExpressionsTell}

pub triggers_tell : TriggersTell
unfolding encode digits chars
triggers_tell = (refl, refl, refl, refl)

pub groups_tell : GroupsTell
unfolding encode digits chars
groups_tell = (refl, refl, refl)

pub expressions_tell : ExpressionsTell
unfolding encode digits chars
expressions_tell = (refl, refl)
