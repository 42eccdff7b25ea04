-- The batches that a routing run makes of the changes that wait.
use Rattle.std.specs.Prelude.{ℕ, ◌+◌, max, Bool, ◌&&◌, ◌==◌, List, [], ◌∷◌, ◌++◌, map}
use Rattle.std.specs.List.{enumerate_from, fold, filter, flat_map, list_any, range_with_len}
use Rattle.std.specs.Ordering.{nat_cmp, ordering_then, is_lt}
use Rattle.std.specs.Cmp.Lexicographic.{slice_cmp}
use Rattle.std.specs.declared.cmp.Ordering.{Ordering}
use Rattle.sds_value.specs.declared.row.Peer.{Peer}
use Rattle.sds_types.specs.declared.batch.NewBatch.{NewBatch}
use Rattle.sds_types.specs.declared.channel.ChannelDef.{ChannelDef}
use Rattle.sds_types.specs.declared.config.Config.{Config}
use Rattle.sds_types.specs.declared.row.Change.{Change}
use Rattle.sds_types.specs.declared.row.TableRow.{TableRow}
use Rattle.sds_trade.specs.rules.Cuts.{cut}
use Rattle.sds_trade.specs.rules.Named.{targets_of}

-- channels go by their processing order, and those of one order by id
abbrev pub channel_order : ChannelDef → ChannelDef → Ordering
channel_order a b =
    ordering_then (nat_cmp a.processing_order b.processing_order) (slice_cmp nat_cmp a.id b.id)

-- a channel with its place among those that are in order
abbrev pub goes_before : ℕ × ChannelDef → ℕ × ChannelDef → Bool
goes_before a b = is_lt (channel_order a.1 b.1)

abbrev pub with_channel : ℕ × ChannelDef → List (ℕ × ChannelDef) → List (ℕ × ChannelDef)
with_channel new channels =
    filter (λ (at : ℕ × ChannelDef). goes_before at new) channels
    ++ new ∷ filter (λ (at : ℕ × ChannelDef). goes_before new at) channels

abbrev pub sorted_channels : List (ℕ × ChannelDef) → List (ℕ × ChannelDef)
sorted_channels [] = []
sorted_channels (channel ∷ channels) = with_channel channel (sorted_channels channels)

-- the channels with their places, in the order in which they go
abbrev pub channels_in_order : Config → List (ℕ × ChannelDef)
channels_in_order config = sorted_channels (enumerate_from 0 config.channels)

-- a change with the places of the peers that it is for
abbrev pub is_for : ℕ → ℕ → Change × List ℕ → Bool
is_for channel peer at =
    at.0.channel == channel && list_any (λ (target : ℕ). target == peer) at.1

-- the changes of a channel that are for the peer at a place
abbrev pub lane_changes : List (Change × List ℕ) → ℕ → ℕ → List Change
lane_changes routed channel peer =
    map (λ (at : Change × List ℕ). at.0) (filter (is_for channel peer) routed)

-- the batch of a piece, but for its number
abbrev pub batch_in : ℕ → ℕ → List Change → NewBatch
batch_in channel peer piece = record {
  id = 0;
  peer = peer;
  channel = channel;
  changes = map (λ (change : Change). change.id) piece;
}

abbrev pub lane_batches : List (Change × List ℕ) → ℕ × ChannelDef → ℕ → List NewBatch
lane_batches routed at peer = map (batch_in at.0 peer)
    (cut at.1.batch_algorithm at.1.max_batch_size (lane_changes routed at.0 peer))

abbrev pub numbered_batch : ℕ × NewBatch → NewBatch
numbered_batch at = record at.1 { id = at.0 }

-- one more than the greatest place of a peer that a change is for
abbrev pub peers_named : List (Change × List ℕ) → ℕ
peers_named routed =
    fold max 0 (map (λ (target : ℕ). target + 1) (flat_map (λ (at : Change × List ℕ). at.1) routed))

-- the batches of changes with the peers that they are for: channel by channel in their order, and
-- in each peer by peer; their numbers are consecutive
abbrev pub batches_of : Config → ℕ → List (Change × List ℕ) → List NewBatch
batches_of config first routed = map numbered_batch (enumerate_from first
    (flat_map (λ (at : ℕ × ChannelDef).
    flat_map (lane_batches routed at) (range_with_len 0 (peers_named routed)))
    (channels_in_order config)))

-- what a routing run at a node makes of the changes that wait, where certain rows stand
abbrev pub routed_changes : Config → Peer → List TableRow → List Peer → List Change
    → List (Change × List ℕ)
routed_changes config me rows peers changes =
    map (λ (change : Change). (change, targets_of config me rows peers change)) changes
