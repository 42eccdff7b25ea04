-- What every configuration promises: all that the rules and the crates above them rely on.
use Rattle.sds_types.specs.declared.config.Config.{Config}
use Rattle.sds_trade.specs.sound.Sections.{AreGroups, AreLinks, AreChannels}
use Rattle.sds_trade.specs.sound.Tables.{AreTableDefs}
use Rattle.sds_trade.specs.sound.Triggers.{AreTriggers, AreTriggerRouters}
use Rattle.sds_trade.specs.sound.Routers.{AreRouters}
use Rattle.sds_trade.specs.sound.Transforms.{AreTransforms}
use Rattle.sds_trade.specs.sound.Conflicts.{AreConflicts}

-- a sound configuration: each section is, by itself and beside the sections that it refers to
pub record IsSound (config : Config) : Type 0 where
  pub groups : AreGroups config.groups
  pub links : AreLinks config.groups config.links
  pub channels : AreChannels config.channels
  pub tables : AreTableDefs config.tables
  pub triggers : AreTriggers config
  pub routers : AreRouters config
  pub trigger_routers : AreTriggerRouters config
  pub transforms : AreTransforms config
  pub conflicts : AreConflicts config
