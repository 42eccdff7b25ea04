-- The two groups that an entry stands between, in the order in which changes go.
use Rattle.std.specs.Prelude.{ℕ, List, codes, Result, Ok}
use Rattle.toml.specs.Data.{Members}
use Rattle.sds_config.specs.declared.ends.Ends.{Ends}
use Rattle.sds_types.specs.declared.config_refusal.ConfigRefusal.{ConfigRefusal}
use Rattle.sds_config.specs.Refusals.{and_then}
use Rattle.sds_config.specs.Fields.{place_at}

abbrev pub ends_at : List (List ℕ) → Members → List ℕ → Result Ends ConfigRefusal
ends_at groups entry at =
    and_then (place_at (λ name. name) groups entry at (codes "source_group")) (λ source.
    and_then (place_at (λ name. name) groups entry at (codes "target_group")) (λ target.
    Ok (record { source = source; target = target })))
