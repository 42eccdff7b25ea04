-- The changes that wait in the lanes of a channel, and the batches that they become.
use Rattle.std.specs.Prelude.{ℕ, ◌+◌, ◌==◌, if◌then◌else◌, List, [], ◌∷◌, ◌++◌, length, map, Option, option_map, slice_get, slice_set}
use Rattle.std.specs.List.{enumerate_from, range_with_len, slice_index_or}
use Rattle.sds_types.specs.declared.batch.NewBatch.{NewBatch}
use Rattle.sds_types.specs.declared.channel.ChannelDef.{ChannelDef}
use Rattle.sds_types.specs.declared.row.Change.{Change}
use Rattle.sds_trade.specs.rules.Batches.{numbered_batch}
use Rattle.sds_batcher.specs.Ends.{ends_piece}
use Rattle.sds_batcher.specs.declared.lanes.Waiting.{Waiting}

abbrev pub waiting_of : Change → Waiting
waiting_of change = record { id = change.id; tx = change.tx }

-- so many lanes without changes
abbrev pub empty_lanes : ℕ → List (List Waiting)
empty_lanes peers = map (λ (peer : ℕ). []) (range_with_len 0 peers)

-- the lanes, with a change at the end of the one at a place
abbrev pub with_waiting : List (List Waiting) → ℕ → Waiting → List (List Waiting)
with_waiting lanes place waiting =
    slice_set lanes place (slice_index_or lanes place [] ++ waiting ∷ [])

-- and at the end of each of those at these places
abbrev pub with_each : List ℕ → Waiting → List (List Waiting) → List (List Waiting)
with_each [] waiting lanes = lanes
with_each (place ∷ places) waiting lanes =
    with_each places waiting (with_waiting lanes place waiting)

-- with the changes of a channel, each at the end of the lanes that it is for
abbrev pub with_all : ℕ → List Change → List (List ℕ) → List (List Waiting) → List (List Waiting)
with_all channel [] targets lanes = lanes
with_all channel (change ∷ changes) [] lanes = lanes
with_all channel (change ∷ changes) (places ∷ targets) lanes =
    if change.channel == channel
    then with_all channel changes targets (with_each places (waiting_of change) lanes)
    else with_all channel changes targets lanes

-- a batch of a lane, before it has a number
abbrev pub made_batch : ℕ → ℕ → List ℕ → NewBatch
made_batch channel peer ids = record { id = 0; peer = peer; channel = channel; changes = ids }

-- the open batch where the changes end, if it has any
abbrev pub last_batch : ℕ → ℕ → List ℕ → List NewBatch
last_batch channel peer [] = []
last_batch channel peer (id ∷ ids) = made_batch channel peer (id ∷ ids) ∷ []

-- the transaction of the first of some changes
abbrev pub next_waiting : List Waiting → Option ℕ
next_waiting lane = option_map (λ (waiting : Waiting). waiting.tx) (slice_get lane 0)

-- the batches of the open batch and of the changes to come of a lane
abbrev pub batches_to_come : ChannelDef → ℕ → ℕ → List ℕ → List Waiting → List NewBatch
batches_to_come def channel peer ids [] = last_batch channel peer ids
batches_to_come def channel peer ids (waiting ∷ later) =
    if ends_piece def.batch_algorithm def.max_batch_size (length (ids ++ waiting.id ∷ []))
    waiting.tx (next_waiting later)
    then made_batch channel peer (ids ++ waiting.id ∷ [])
    ∷ batches_to_come def channel peer [] later
    else batches_to_come def channel peer (ids ++ waiting.id ∷ []) later

-- the batches of a channel's lanes, from the lane of the peer at a place on
abbrev pub lanes_to_come : ChannelDef → ℕ → ℕ → List (List Waiting) → List NewBatch
lanes_to_come def channel peer [] = []
lanes_to_come def channel peer (lane ∷ lanes) =
    batches_to_come def channel peer [] lane ++ lanes_to_come def channel (peer + 1) lanes

-- the batches of a channel with its place, before they have numbers
abbrev pub channel_batches : List Change → List (List ℕ) → ℕ → ℕ × ChannelDef → List NewBatch
channel_batches changes targets peers at = lanes_to_come at.1 at.0 0
    (with_all at.0 changes targets (empty_lanes peers))

-- batches with consecutive numbers
abbrev pub numbered : ℕ → List NewBatch → List NewBatch
numbered first batches = map numbered_batch (enumerate_from first batches)
