-- The section `link`: the ways from group to group. No two links have the same two groups in the same order.
use Rattle.std.specs.Prelude.{ℕ, Bool, ◌&&◌, ◌==◌, if◌then◌else◌, List, [], ◌∷◌, codes, Result, Ok, Err}
use Rattle.std.specs.List.{list_any}
use Rattle.std.specs.Str.{chars}
use Rattle.toml.specs.Data.{Members}
use Rattle.sds_types.specs.declared.config.Config.{Config}
use Rattle.sds_types.specs.declared.link.LinkDef.{LinkDef}
use Rattle.sds_types.specs.declared.config_refusal.ConfigRefusal.{ConfigRefusal}
use Rattle.sds_types.specs.declared.config_refusal.ConfigRefusal.TheVariants.{Duplicate}
use Rattle.sds_config.specs.Refusals.{and_then}
use Rattle.sds_config.specs.Fields.{only_keys, place_at, word_at}
use Rattle.sds_config.specs.Words.{action_of}

-- a link leads from the one group to the other
abbrev pub leads : List LinkDef → ℕ → ℕ → Bool
leads links source target = list_any (λ link. link.source == source && link.target == target) links

abbrev pub link_of : Config → List LinkDef → Members → List ℕ → Result LinkDef ConfigRefusal
link_of config earlier entry at =
    and_then (only_keys (codes "source" ∷ codes "target" ∷ codes "action" ∷ []) entry at) (λ _.
    and_then (place_at (λ name. name) config.groups entry at (codes "source")) (λ source.
    and_then (place_at (λ name. name) config.groups entry at (codes "target")) (λ target.
    and_then (word_at action_of entry at (codes "action")) (λ action.
    if leads earlier source target then Err (Duplicate (chars at)) else Ok (record { source = source; target = target; action = action })))))
