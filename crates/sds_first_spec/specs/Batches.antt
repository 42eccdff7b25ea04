-- The batches that a routing run makes.
use Rattle.std.specs.Prelude.{ℕ, ◌+◌, Bool, true, false, ◌&&◌, ◌||◌, ◌==◌, nat_lt, if◌then◌else◌, List, [], ◌∷◌, map, filter, slice_get}
use Rattle.std.specs.List.{flat_map}
use Rattle.std.specs.Option.{option_map_or}
use Rattle.std.specs.Ordering.{nat_cmp}
use Rattle.std.specs.declared.cmp.Ordering.{Ordering}
use Rattle.std.specs.declared.cmp.Ordering.TheVariants.{Less, Equal, Greater}
use Rattle.std.specs.Cmp.Lexicographic.{slice_cmp}
use Rattle.sds_value.specs.declared.row.Peer.{Peer}
use Rattle.sds_types.specs.declared.config.Config.{Config}
use Rattle.sds_types.specs.declared.channel.ChannelDef.{ChannelDef}
use Rattle.sds_types.specs.declared.batch.OutBatch.{OutBatch}
use Rattle.sds_types.specs.declared.batch.Standing.TheVariants.{New}
use Rattle.sds_types.specs.declared.peer.KeptPeer.{KeptPeer}
use Rattle.sds_types.specs.declared.row.Change.{Change}
use Rattle.sds_types.specs.declared.row.TableRow.{TableRow}
use Rattle.sds_first_spec.specs.Cuts.{cut}
use Rattle.sds_first_spec.specs.Routing.{is_named}

abbrev pub is_less : Ordering → Bool
is_less Less = true
is_less Equal = false
is_less Greater = false

-- lower processing orders go first, and channels of one order go by id
abbrev pub goes_before : ChannelDef → ChannelDef → Bool
goes_before a b = nat_lt a.processing_order b.processing_order || (a.processing_order == b.processing_order && is_less (slice_cmp nat_cmp a.id b.id))

-- a channel with its place, before the first that it goes before
abbrev pub placed : ℕ → ChannelDef → List (ℕ × ChannelDef) → List (ℕ × ChannelDef)
placed n channel [] = (n, channel) ∷ []
placed n channel (next ∷ others) = if goes_before channel next.1 then (n, channel) ∷ (next ∷ others) else next ∷ placed n channel others

abbrev pub in_order : ℕ → List ChannelDef → List (ℕ × ChannelDef)
in_order n [] = []
in_order n (channel ∷ channels) = placed n channel (in_order (n + 1) channels)

-- the places of the channels in the order in which they go
abbrev pub channel_order : Config → List ℕ
channel_order config = map (λ (c : ℕ × ChannelDef). c.0) (in_order 0 config.channels)

-- how many changes make a batch of the channel full
abbrev pub full_size : Config → ℕ → ℕ
full_size config channel = option_map_or (λ (def : ChannelDef). def.max_batch_size) (slice_get config.channels channel) 1

-- a piece of a lane's changes, which becomes a batch
pub record Piece : Type 0 where
  pub peer : List ℕ
  pub channel : ℕ
  pub changes : List Change

-- the changes of a channel that go to a peer
abbrev pub lane_changes : Config → Peer → List TableRow → List Change → ℕ → Peer → List Change
lane_changes config me rows changes channel peer = filter (λ (c : Change). c.channel == channel && is_named config me rows c peer) changes

-- cut by the default algorithm, whichever the channel has: the others come later
abbrev pub lane_pieces : Config → Peer → List TableRow → List Change → ℕ → KeptPeer → List Piece
lane_pieces config me rows changes channel kept =
    map (λ (piece : List Change). record { peer = kept.peer.id; channel = channel; changes = piece })
    (cut (full_size config channel) (lane_changes config me rows changes channel kept.peer))

-- the pieces of these changes: channel by channel in their order, and in each peer by peer as they stand, which is by id
abbrev pub pieces_of : Config → Peer → List KeptPeer → List TableRow → List Change → List Piece
pieces_of config me peers rows changes =
    flat_map (λ (channel : ℕ). flat_map (lane_pieces config me rows changes channel) peers) (channel_order config)

abbrev pub batch_of : ℕ → Piece → OutBatch
batch_of id piece = record { id = id; peer = piece.peer; channel = piece.channel; standing = New; changes = map (λ (c : Change). c.id) piece.changes }

-- the batches of these pieces, with consecutive numbers from id on
abbrev pub batches_from : ℕ → List Piece → List OutBatch
batches_from id [] = []
batches_from id (piece ∷ pieces) = batch_of id piece ∷ batches_from (id + 1) pieces
