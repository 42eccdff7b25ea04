-- Of a sound configuration: its triggers, and what joins them to routers.
use Rattle.std.specs.Prelude.{◌≡◌, ◌≢◌, ◌<◌, ◌≤◌, Bool, false, ◌&&◌, ◌==◌, IsTrue, length}
use Rattle.std.specs.List.{All, AllPairs}
use Rattle.sds_value.specs.Names.{is_name_text}
use Rattle.sds_types.specs.Limits.{most_triggers, most_trigger_routers}
use Rattle.sds_types.specs.declared.config.Config.{Config}
use Rattle.sds_types.specs.declared.trigger.TriggerDef.{TriggerDef}
use Rattle.sds_types.specs.declared.trigger.TriggerRouterDef.{TriggerRouterDef}

-- a trigger stands on a table, and its changes go in a channel that is there
pub record IsTrigger (config : Config) (trigger : TriggerDef) : Type 0 where
  pub named : IsTrue (is_name_text trigger.id)
  pub table : trigger.source_table < length config.tables
  pub channel : trigger.channel < length config.channels

-- no two triggers have one id, or stand on one table
pub record AreTriggers (config : Config) : Type 0 where
  pub few : length config.triggers ≤ most_triggers
  pub each : All (IsTrigger config) config.triggers
  pub apart : AllPairs (λ (a b : TriggerDef). a.id ≢ b.id) config.triggers
  pub single : AllPairs (λ (a b : TriggerDef). a.source_table ≢ b.source_table) config.triggers

-- what joins a trigger to a router, both of which are there
pub record IsTriggerRouter (config : Config) (join : TriggerRouterDef) : Type 0 where
  pub trigger : join.trigger < length config.triggers
  pub router : join.router < length config.routers

-- two join one trigger to one router
abbrev pub join_alike : TriggerRouterDef → TriggerRouterDef → Bool
join_alike a b = a.trigger == b.trigger && a.router == b.router

-- each trigger is joined to a router at most once
pub record AreTriggerRouters (config : Config) : Type 0 where
  pub few : length config.trigger_routers ≤ most_trigger_routers
  pub each : All (IsTriggerRouter config) config.trigger_routers
  pub apart : AllPairs (λ (a b : TriggerRouterDef). join_alike a b ≡ false) config.trigger_routers
