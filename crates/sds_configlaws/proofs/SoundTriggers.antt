-- The triggers of a file, and what joins them to its routers, are sound.
use Rattle.std.proofs.Common.{◌≡◌, ◌≢◌, ℕ, ◌<◌, ◌≤◌, Bool, true, false, cond, List, [], ◌∷◌, ◌++◌, length, Result, Ok, Err, refl, subst, All, AllPairs, sym, ap, ◌∙◌, true≢false, ◌==◌, arith}
use Rattle.std.specs.Prelude.{codes, if◌then◌else◌}
use Rattle.std.specs.Str.{chars}
use Rattle.std.proofs.lemmas.Bool.Decides.{nat_tests}
use Rattle.std.proofs.lemmas.List.Elements.{All-nil}
use Rattle.toml.specs.Data.{Members}
use Rattle.sds_types.specs.declared.config.Config.{Config}
use Rattle.sds_types.specs.declared.config_refusal.ConfigRefusal.{ConfigRefusal}
use Rattle.sds_types.specs.declared.config_refusal.ConfigRefusal.TheVariants.{Duplicate}
use Rattle.sds_types.specs.declared.trigger.TriggerDef.{TriggerDef}
use Rattle.sds_types.specs.declared.trigger.TriggerRouterDef.{TriggerRouterDef}
use Rattle.sds_trade.specs.sound.Triggers.{AreTriggers, AreTriggerRouters, IsTrigger, IsTriggerRouter, join_alike}
use Rattle.sds_config.specs.Fields.{flag_at, id_at, only_keys, place_at}
use Rattle.sds_config.specs.Sections.{section_of}
use Rattle.sds_config.specs.TriggerRouters.{joins, trigger_router_of}
use Rattle.sds_config.specs.Triggers.{captures, syncs_at, trigger_keys, trigger_of}
use Rattle.sds_configlaws.proofs.Gave.{Answer, Is, gives, refuses, gave, same_value, never, all_snoc, all_mapped, pairs_snoc, no_pairs, none_passes, IsNew, new_given, place_given}
use Rattle.sds_configlaws.proofs.Kept.{Keeps, IsKept, section_kept}

-- TRIGGERS
abbrev IdsApart : TriggerDef → TriggerDef → Type 0
IdsApart a b = a.id ≢ b.id

abbrev TablesApart : TriggerDef → TriggerDef → Type 0
TablesApart a b = a.source_table ≢ b.source_table

pub record Triggers (config : Config) (triggers : List TriggerDef) : Type 0 where
  pub each : All (IsTrigger config) triggers
  pub apart : AllPairs IdsApart triggers
  pub single : AllPairs TablesApart triggers

no_triggers : (config : Config) → Triggers config []
no_triggers config = record { each = All-nil (IsTrigger config); apart = no_pairs IdsApart; single = no_pairs TablesApart }

other_number : (a b : ℕ) → (a == b) ≡ false → a ≢ b
other_number a b isnt same = grind (arith, nat_tests)

trigger_on : (config : Config) (earlier : List TriggerDef) (refusal : ConfigRefusal) (made new : TriggerDef) (b : Bool) → Triggers config earlier
    → IsNew (λ trigger. trigger.id) earlier made.id → made.source_table < length config.tables → made.channel < length config.channels
    → captures earlier made.source_table ≡ b → Is (cond b (refuses refusal) (gives made)) new → Triggers config (earlier ++ new ∷ [])
trigger_on config earlier refusal made new true are id table channel taken is = never _ new is
trigger_on config earlier refusal made new false are id table channel free is = subst (λ n. Triggers config (earlier ++ n ∷ [])) (same_value made new is) (record {
  each = all_snoc (IsTrigger config) earlier made are.each (record { named = id.named; table = table; channel = channel });
  apart = pairs_snoc IdsApart earlier made are.apart id.apart;
  single = pairs_snoc TablesApart earlier made are.single
      (all_mapped (λ other. (other.source_table == made.source_table) ≡ false) (λ other. TablesApart other made) earlier
      (λ other isnt. other_number other.source_table made.source_table isnt)
      (none_passes (λ other. other.source_table == made.source_table) earlier free));
})

triggers_keep : (config : Config) → Keeps config trigger_of (Triggers config)
triggers_keep config earlier entry at new are is =
    gave (only_keys trigger_keys entry at) _ new is (λ unit listed is.
    gave (id_at (λ trigger. trigger.id) earlier entry at (codes "id")) _ new is (λ id id_is is.
    gave (place_at (λ table. table.name) config.tables entry at (codes "source_table")) _ new is (λ table table_is is.
    gave (place_at (λ channel. channel.id) config.channels entry at (codes "channel")) _ new is (λ channel channel_is is.
    gave (syncs_at entry at) _ new is (λ syncs syncs_is is.
    trigger_on config earlier (Duplicate (chars at)) (record {
      id = id;
      source_table = table;
      channel = channel;
      sync_on_insert = syncs.insert;
      sync_on_update = syncs.update;
      sync_on_delete = syncs.delete;
      sync_on_incoming_batch = syncs.incoming;
    }) new (captures earlier table) are (new_given (λ trigger. trigger.id) earlier entry at (codes "id") id id_is)
    (place_given (λ def. def.name) config.tables entry at (codes "source_table") table table_is)
    (place_given (λ def. def.id) config.channels entry at (codes "channel") channel channel_is) refl is)))))

pub triggers_kept : (config : Config) (file : Members) (triggers : List TriggerDef) → section_of trigger_of 64 (codes "trigger") config file ≡ Ok triggers
    → IsKept (Triggers config) 64 triggers
triggers_kept config file triggers is =
    section_kept config trigger_of (Triggers config) (triggers_keep config) 64 (codes "trigger") file triggers (no_triggers config) is

-- PAIRS
abbrev JoinApart : TriggerRouterDef → TriggerRouterDef → Type 0
JoinApart a b = join_alike a b ≡ false

pub record Pairs (config : Config) (pairs : List TriggerRouterDef) : Type 0 where
  pub each : All (IsTriggerRouter config) pairs
  pub apart : AllPairs JoinApart pairs

no_joins : (config : Config) → Pairs config []
no_joins config = record { each = All-nil (IsTriggerRouter config); apart = no_pairs JoinApart }

pair_on : (config : Config) (earlier : List TriggerRouterDef) (refusal : ConfigRefusal) (made new : TriggerRouterDef) (b : Bool) → Pairs config earlier
    → made.trigger < length config.triggers → made.router < length config.routers
    → joins earlier made.trigger made.router ≡ b → Is (cond b (refuses refusal) (gives made)) new → Pairs config (earlier ++ new ∷ [])
pair_on config earlier refusal made new true are trigger router taken is = never _ new is
pair_on config earlier refusal made new false are trigger router free is = subst (λ n. Pairs config (earlier ++ n ∷ [])) (same_value made new is) (record {
  each = all_snoc (IsTriggerRouter config) earlier made are.each (record { trigger = trigger; router = router });
  apart = pairs_snoc JoinApart earlier made are.apart (none_passes (λ other. join_alike other made) earlier free);
})

pairs_keep : (config : Config) → Keeps config trigger_router_of (Pairs config)
pairs_keep config earlier entry at new are is =
    gave (only_keys (codes "trigger" ∷ codes "router" ∷ codes "enabled" ∷ codes "ping_back_enabled" ∷ []) entry at) _ new is (λ unit listed is.
    gave (place_at (λ trigger. trigger.id) config.triggers entry at (codes "trigger")) _ new is (λ trigger trigger_is is.
    gave (place_at (λ router. router.id) config.routers entry at (codes "router")) _ new is (λ router router_is is.
    gave (flag_at true entry at (codes "enabled")) _ new is (λ enabled enabled_is is.
    gave (flag_at false entry at (codes "ping_back_enabled")) _ new is (λ back back_is is.
    pair_on config earlier (Duplicate (chars at)) (record { trigger = trigger; router = router; enabled = enabled; ping_back_enabled = back }) new (joins earlier trigger router) are
    (place_given (λ def. def.id) config.triggers entry at (codes "trigger") trigger trigger_is)
    (place_given (λ def. def.id) config.routers entry at (codes "router") router router_is) refl is)))))

pub pairs_kept : (config : Config) (file : Members) (pairs : List TriggerRouterDef)
    → section_of trigger_router_of 1024 (codes "trigger_router") config file ≡ Ok pairs → IsKept (Pairs config) 1024 pairs
pairs_kept config file pairs is =
    section_kept config trigger_router_of (Pairs config) (pairs_keep config) 1024 (codes "trigger_router") file pairs (no_joins config) is
