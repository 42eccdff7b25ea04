-- The section `trigger_router`: which router a trigger's changes take. A trigger and a router are joined at most once.
use Rattle.std.specs.Prelude.{ℕ, Bool, true, false, ◌&&◌, ◌==◌, if◌then◌else◌, List, [], ◌∷◌, codes, Result, Ok, Err}
use Rattle.std.specs.List.{list_any}
use Rattle.std.specs.Str.{chars}
use Rattle.toml.specs.Data.{Members}
use Rattle.sds_types.specs.declared.config.Config.{Config}
use Rattle.sds_types.specs.declared.config_refusal.ConfigRefusal.{ConfigRefusal}
use Rattle.sds_types.specs.declared.config_refusal.ConfigRefusal.TheVariants.{Duplicate}
use Rattle.sds_types.specs.declared.trigger.TriggerRouterDef.{TriggerRouterDef}
use Rattle.sds_config.specs.Refusals.{and_then}
use Rattle.sds_config.specs.Fields.{only_keys, place_at, flag_at}

-- one of the entries joins the two
abbrev pub joins : List TriggerRouterDef → ℕ → ℕ → Bool
joins pairs trigger router = list_any (λ pair. pair.trigger == trigger && pair.router == router) pairs

-- no other entry joins the two
abbrev pub whole_pair : List TriggerRouterDef → List ℕ → TriggerRouterDef → Result TriggerRouterDef ConfigRefusal
whole_pair earlier at pair =
    if joins earlier pair.trigger pair.router then Err (Duplicate (chars at)) else Ok pair

abbrev pub trigger_router_of : Config → List TriggerRouterDef → Members → List ℕ → Result TriggerRouterDef ConfigRefusal
trigger_router_of config earlier entry at =
    and_then (only_keys (codes "trigger" ∷ codes "router" ∷ codes "enabled" ∷ codes "ping_back_enabled" ∷ []) entry at) (λ _.
    and_then (place_at (λ trigger. trigger.id) config.triggers entry at (codes "trigger")) (λ trigger.
    and_then (place_at (λ router. router.id) config.routers entry at (codes "router")) (λ router.
    and_then (flag_at true entry at (codes "enabled")) (λ enabled.
    and_then (flag_at false entry at (codes "ping_back_enabled")) (λ ping_back_enabled.
    whole_pair earlier at (record { trigger = trigger; router = router; enabled = enabled; ping_back_enabled = ping_back_enabled }))))))
