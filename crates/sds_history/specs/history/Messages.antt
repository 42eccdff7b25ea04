-- What a message of a node to a peer holds of each lane.
use Rattle.std.specs.Prelude.{ℕ, ◌+◌, Bool, true, ◌&&◌, ◌||◌, ◌==◌, not, nat_le, List, [], ◌∷◌, length, map, take, drop, slice_get}
use Rattle.std.specs.List.{filter, flat_map, list_any, position, range_with_len, sum_by}
use Rattle.std.specs.Option.{option_map_or}
use Rattle.std.specs.Str.{bytes_eq}
use Rattle.sds_types.specs.Limits.{most_part_bytes}
use Rattle.sds_types.specs.declared.batch.OutBatch.{OutBatch}
use Rattle.sds_types.specs.declared.channel.ChannelDef.{ChannelDef}
use Rattle.sds_types.specs.declared.config.Config.{Config}
use Rattle.sds_types.specs.declared.message.MessagePart.{MessagePart}
use Rattle.sds_batchtext.specs.Writing.{batch_text}
use Rattle.sds_trade.specs.rules.Batches.{channels_in_order}
use Rattle.sds_history.specs.history.Acts.{State}
use Rattle.sds_history.specs.history.Documents.{doc_of_batch}
use Rattle.sds_history.specs.history.Standings.{is_acked, is_erred}

-- the batches to a peer in a channel, by number
abbrev pub is_in_lane : List ℕ → ℕ → OutBatch → Bool
is_in_lane to channel batch = batch.channel == channel && bytes_eq batch.peer to

abbrev pub lane_made : State → List ℕ → ℕ → List OutBatch
lane_made state to channel = filter (is_in_lane to channel) state.batches

-- those that are acknowledged, which are its first, and those that aren't
abbrev pub acked_count : State → List ℕ → ℕ → ℕ
acked_count state to channel =
    length (filter (λ (batch : OutBatch). is_acked batch.standing) (lane_made state to channel))

abbrev pub lane_waiting : State → List ℕ → ℕ → List OutBatch
lane_waiting state to channel =
    filter (λ (batch : OutBatch). not (is_acked batch.standing)) (lane_made state to channel)

-- the batch at a place ends a part: it is the last that a message takes, or it is in error
abbrev pub is_last : ℕ → List OutBatch → ℕ → Bool
is_last most batches place = place + 1 == most
    || option_map_or (λ (batch : OutBatch). is_erred batch.standing) (slice_get batches place)
    true

-- or it brings the part's text to its most bytes
abbrev pub bytes_of : Config → State → OutBatch → ℕ
bytes_of config state batch = length (batch_text (doc_of_batch config state batch))

abbrev pub fills_part : Config → State → List OutBatch → ℕ → Bool
fills_part config state batches place =
    nat_le most_part_bytes (sum_by (bytes_of config state) (take (place + 1) batches))

-- how many batches there are up to the first that ends a part
abbrev pub count_through : (ℕ → Bool) → List OutBatch → ℕ
count_through ends batches = option_map_or (λ (place : ℕ). place + 1)
    (position ends (range_with_len 0 (length batches))) (length batches)

-- the channels of a message, in their order: those named, or all where none is
abbrev pub is_wanted : List ℕ → ℕ × ChannelDef → Bool
is_wanted [] at = true
is_wanted (channel ∷ channels) at =
    list_any (λ (other : ℕ). other == at.0) (channel ∷ channels)

abbrev pub message_channels : Config → List ℕ → List (ℕ × ChannelDef)
message_channels config channels = filter (is_wanted channels) (channels_in_order config)

-- what a message holds of a lane
abbrev pub ends_part : Config → State → ℕ → List OutBatch → ℕ → Bool
ends_part config state most batches place =
    is_last most batches place || fills_part config state batches place

abbrev pub part_of : Config → State → List ℕ → ℕ × ChannelDef → MessagePart
part_of config state to at = let batches = lane_waiting state to at.0 in record {
  channel = at.0;
  start = acked_count state to at.0;
  count = count_through (ends_part config state at.1.max_batch_to_send batches) batches;
}

-- the parts of a message to a peer
abbrev pub parts_of : Config → State → List ℕ → List ℕ → List MessagePart
parts_of config state to channels =
    map (part_of config state to) (message_channels config channels)

-- the batches of a part, and of a message
abbrev pub batches_in_part : State → List ℕ → MessagePart → List OutBatch
batches_in_part state to part =
    take part.count (drop part.start (lane_made state to part.channel))

abbrev pub batches_in_parts : State → List ℕ → List MessagePart → List OutBatch
batches_in_parts state to parts = flat_map (batches_in_part state to) parts

-- OFFER: the numbers of the batches that go next to a peer, however long their text is
abbrev pub offered_in : State → List ℕ → ℕ × ChannelDef → List OutBatch
offered_in state to at = let batches = lane_waiting state to at.0 in
    take (count_through (is_last at.1.max_batch_to_send batches) batches) batches

abbrev pub offer_of : Config → State → List ℕ → List ℕ → List ℕ
offer_of config state to channels = map (λ (batch : OutBatch). batch.id)
    (flat_map (offered_in state to) (message_channels config channels))
