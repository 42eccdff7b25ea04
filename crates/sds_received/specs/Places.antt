-- The places of channels by their names.
use Rattle.std.specs.Prelude.{ℕ, List, length, unwrap_or}
use Rattle.sds_types.specs.declared.config.Config.{Config}
use Rattle.sds_trade.specs.rules.Outcomes.{channel_place}

-- the place of the channel of a name; for a name that no channel has, the number of the channels
abbrev pub place_in : Config → List ℕ → ℕ
place_in config name = unwrap_or (channel_place config name) (length config.channels)
