-- The configuration of the tests: two channels, and nothing else.
use Rattle.std.specs.Prelude.{[], ◌∷◌, codes}
use Rattle.sds_types.specs.declared.config.Config.{Config}
use Rattle.sds_trade.specs.worked.Entries.{channel_def}

abbrev pub two_channels : Config
two_channels = record {
  groups = [];
  links = [];
  channels = channel_def (codes "orders") 20 ∷ (channel_def (codes "stock") 10 ∷ []);
  tables = [];
  triggers = [];
  routers = [];
  trigger_routers = [];
  transforms = [];
  conflicts = [];
}
