use Rattle.std.proofs.Common.{subst, sym}
use Rattle.sds_types.specs.declared.config.Config.{Config}
use Rattle.sds_trade.specs.rules.Sound.{IsSound}
use Rattle.sds_received.proofs.Sound.{two_channels_sound}
use Rattle.sds_received.proofs.tests.channels_are_found_by_their_names.Goals as goal

pub channels_of-requires : goal.channels_of-requires
channels_of-requires g c = subst (λ (config : Config). IsSound config) (sym c.in_ok-config.ensures) two_channels_sound
