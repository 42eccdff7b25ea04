-- Links of a kind.
use Rattle.std.specs.Prelude.{ℕ, Bool, List}
use Rattle.sds_types.specs.declared.config.Config.{Config}
use Rattle.sds_types.specs.declared.link.Action.{Action}
use Rattle.sds_types.specs.declared.link.Action.TheVariants.{P, W}
use Rattle.sds_history.specs.history.Links.{has_pull, has_push}

-- a link that pushes leads from one group to another, or one that waits for a pull
abbrev pub leads_by : Config → Action → List ℕ → List ℕ → Bool
leads_by config P from to = has_push config from to
leads_by config W from to = has_pull config from to
