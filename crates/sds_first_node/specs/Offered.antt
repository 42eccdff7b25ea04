-- Which of a node's batches an offer and a call for rows name.
use Rattle.std.specs.Prelude.{ℕ, ◌-◌, Bool, ◌&&◌, ◌==◌, not, if◌then◌else◌, List, [], ◌∷◌, map, flat_map}
use Rattle.std.specs.Str.{bytes_eq}
use Rattle.sds_types.specs.declared.config.Config.{Config}
use Rattle.sds_types.specs.declared.batch.OutBatch.{OutBatch}
use Rattle.sds_first_spec.specs.Acts.{State}
use Rattle.sds_first_spec.specs.Lanes.{is_ok, is_erred, offered_in, channels_of}

-- the numbers of the batches that the next message to a peer takes, channel by channel
abbrev pub offered_ids : Config → State → List ℕ → List ℕ → List ℕ
offered_ids config s to channels = flat_map (λ (channel : ℕ). map (λ (b : OutBatch). b.id) (offered_in config s to channel)) (channels_of config channels)

-- a batch of the lane to a peer that isn't known to be loaded
abbrev pub is_open : List ℕ → OutBatch → Bool
is_open to batch = (bytes_eq batch.peer to && batch.channel == 0) && not (is_ok batch.standing)

-- the numbers of the first so many of these batches that are open, up to the first in error
abbrev pub open_ids : ℕ → List ℕ → List OutBatch → List ℕ
open_ids most to [] = []
open_ids most to (batch ∷ batches) =
    if most == 0 then [] else
    if is_open to batch then (if is_erred batch.standing then batch.id ∷ [] else batch.id ∷ open_ids (most - 1) to batches) else open_ids most to batches
