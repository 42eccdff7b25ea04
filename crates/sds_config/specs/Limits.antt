-- How many entries the sections have at most.
use Rattle.std.specs.Prelude.{◌≤◌, length}
use Rattle.sds_types.specs.declared.config.Config.{Config}

-- a place in a section that others refer to fits in any number of the file
pub record IsWithinLimits (config : Config) : Type 0 where
  pub groups : length config.groups ≤ 1024
  pub channels : length config.channels ≤ 1024
  pub tables : length config.tables ≤ 1024
  pub triggers : length config.triggers ≤ 1024
  pub routers : length config.routers ≤ 1024
