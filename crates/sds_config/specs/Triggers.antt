-- The section `trigger`: which changes of a table are captured. A table has at most one trigger.
use Rattle.std.specs.Prelude.{ℕ, Bool, true, false, ◌==◌, if◌then◌else◌, List, [], ◌∷◌, codes, Result, Ok, Err}
use Rattle.std.specs.List.{list_any}
use Rattle.std.specs.Str.{chars}
use Rattle.toml.specs.Data.{Members}
use Rattle.sds_types.specs.declared.config.Config.{Config}
use Rattle.sds_types.specs.declared.config_refusal.ConfigRefusal.{ConfigRefusal}
use Rattle.sds_types.specs.declared.config_refusal.ConfigRefusal.TheVariants.{Duplicate}
use Rattle.sds_types.specs.declared.trigger.TriggerDef.{TriggerDef}
use Rattle.sds_config.specs.declared.triggers.Syncs.{Syncs}
use Rattle.sds_config.specs.Refusals.{and_then}
use Rattle.sds_config.specs.Fields.{only_keys, id_at, place_at, flag_at}

abbrev pub trigger_keys : List (List ℕ)
trigger_keys = codes "id" ∷ codes "source_table" ∷ codes "channel" ∷ codes "sync_on_insert" ∷ codes "sync_on_update" ∷ codes "sync_on_delete" ∷ codes "sync_on_incoming_batch" ∷ []

-- one of the triggers has this table
abbrev pub captures : List TriggerDef → ℕ → Bool
captures triggers table = list_any (λ trigger. trigger.source_table == table) triggers

-- no other trigger has this one's table
abbrev pub whole_trigger : List TriggerDef → List ℕ → TriggerDef → Result TriggerDef ConfigRefusal
whole_trigger earlier at trigger =
    if captures earlier trigger.source_table then Err (Duplicate (chars at)) else Ok trigger

-- which changes are captured
abbrev pub syncs_at : Members → List ℕ → Result Syncs ConfigRefusal
syncs_at entry at =
    and_then (flag_at true entry at (codes "sync_on_insert")) (λ on_insert.
    and_then (flag_at true entry at (codes "sync_on_update")) (λ on_update.
    and_then (flag_at true entry at (codes "sync_on_delete")) (λ on_delete.
    and_then (flag_at false entry at (codes "sync_on_incoming_batch")) (λ on_incoming.
    Ok (record { insert = on_insert; update = on_update; delete = on_delete; incoming = on_incoming })))))

abbrev pub trigger_of : Config → List TriggerDef → Members → List ℕ → Result TriggerDef ConfigRefusal
trigger_of config earlier entry at =
    and_then (only_keys trigger_keys entry at) (λ _.
    and_then (id_at (λ trigger. trigger.id) earlier entry at (codes "id")) (λ id.
    and_then (place_at (λ table. table.name) config.tables entry at (codes "source_table")) (λ source_table.
    and_then (place_at (λ channel. channel.id) config.channels entry at (codes "channel")) (λ channel.
    and_then (syncs_at entry at) (λ syncs.
    whole_trigger earlier at (record {
      id = id;
      source_table = source_table;
      channel = channel;
      sync_on_insert = syncs.insert;
      sync_on_update = syncs.update;
      sync_on_delete = syncs.delete;
      sync_on_incoming_batch = syncs.incoming;
    }))))))
