-- The section `group`: the node groups, each an id.
use Rattle.std.specs.Prelude.{ℕ, List, [], ◌∷◌, codes, Result}
use Rattle.toml.specs.Data.{Members}
use Rattle.sds_types.specs.declared.config.Config.{Config}
use Rattle.sds_types.specs.declared.config_refusal.ConfigRefusal.{ConfigRefusal}
use Rattle.sds_config.specs.Refusals.{and_then}
use Rattle.sds_config.specs.Fields.{only_keys, id_at}

abbrev pub group_of : Config → List (List ℕ) → Members → List ℕ → Result (List ℕ) ConfigRefusal
group_of config earlier entry at =
    and_then (only_keys (codes "id" ∷ []) entry at) (λ _.
    id_at (λ name. name) earlier entry at (codes "id"))
