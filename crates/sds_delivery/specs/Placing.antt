-- The places, from 0, of a message's batches, and those that are delivered next.
use Rattle.std.specs.Prelude.{ℕ, Bool, ◌==◌, ◌+◌, if◌then◌else◌, nat_le, List, [], ◌∷◌, map, take, Option, option_map, slice_get}
use Rattle.std.specs.List.{enumerate_from, filter, filter_map}
use Rattle.sds_types.specs.declared.batch.OutBatch.{OutBatch}
use Rattle.sds_history.specs.world.DeliverOrder.{mentions}

-- the batch of a message at a place, with the place; and those at these places
abbrev pub at_place : List OutBatch → ℕ → Option (ℕ × OutBatch)
at_place batches place =
    option_map (λ (batch : OutBatch). (place, batch)) (slice_get batches place)

abbrev pub at_places : List OutBatch → List ℕ → List (ℕ × OutBatch)
at_places batches places = filter_map (at_place batches) places

-- of batches of these channels, from a place on, the places of those of one channel
abbrev pub places_from : ℕ → ℕ → List ℕ → List ℕ
places_from channel place [] = []
places_from channel place (other ∷ channels) =
    if other == channel then place ∷ places_from channel (place + 1) channels
    else places_from channel (place + 1) channels

-- the place that a mention stands for, where it has these mentions before it
abbrev pub next_place : List ℕ → ℕ → List ℕ → Option ℕ
next_place earlier channel channels =
    slice_get (places_from channel 0 channels) (mentions earlier channel)

abbrev pub mentioned_place : List ℕ → List ℕ → ℕ × ℕ → Option ℕ
mentioned_place mentioned channels at = next_place (take at.0 mentioned) at.1 channels

abbrev pub mentioned_places : List ℕ → List ℕ → List ℕ
mentioned_places mentioned channels =
    filter_map (mentioned_place mentioned channels) (enumerate_from 0 mentioned)

-- no mention stands for a batch that has as many of its channel before it as there are mentions
abbrev pub is_unmentioned : List ℕ → List ℕ → ℕ × ℕ → Bool
is_unmentioned mentioned channels at =
    nat_le (mentions mentioned at.1) (mentions (take at.0 channels) at.1)

abbrev pub unmentioned_from : ℕ → List ℕ → List ℕ → List ℕ → List ℕ
unmentioned_from place mentioned channels later =
    map (λ (at : ℕ × ℕ). at.0) (filter (is_unmentioned mentioned channels)
    (enumerate_from place later))
