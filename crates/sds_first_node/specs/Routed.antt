-- What a routing run does, in the one configuration and in one pass over the changes.
use Rattle.std.specs.Prelude.{ℕ, ◌+◌, Bool, ◌&&◌, ◌==◌, not, nat_lt, nat_le, if◌then◌else◌, List, [], ◌∷◌, ◌++◌, length, map, filter, Result, Ok, Err}
use Rattle.sds_value.specs.declared.row.Peer.{Peer}
use Rattle.sds_types.specs.declared.node_fault.NodeFault.{NodeFault}
use Rattle.sds_types.specs.declared.node_fault.NodeFault.TheVariants.{Counters}
use Rattle.sds_types.specs.declared.batch.OutBatch.{OutBatch}
use Rattle.sds_types.specs.declared.batch.Standing.TheVariants.{New}
use Rattle.sds_types.specs.declared.row.Change.{Change}
use Rattle.sds_first_spec.specs.Acts.{State}
use Rattle.sds_first_spec.specs.Batches.{Piece}
use Rattle.sds_first_spec.specs.Calls.{may_add, route_pieces}
use Rattle.sds_first_spec.specs.One.{one}
use Rattle.sds_first_spec.specs.Routing.{is_named}

-- whether a change waits for a routing run
abbrev pub is_waiting : ℕ → Change → Bool
is_waiting mark change = nat_lt mark change.id

-- whether a change is of the lane to a peer
abbrev pub is_in_lane : Peer → Peer → Change → Bool
is_in_lane me peer change = change.channel == 0 && is_named one me [] change peer

-- the changes that a routing run cuts into batches to a peer
abbrev pub lane_of : Peer → Peer → ℕ → List Change → List Change
lane_of me peer mark changes = filter (is_in_lane me peer) (filter (is_waiting mark) changes)

-- a piece, unless it is empty
abbrev pub last_ids : List ℕ → List (List ℕ)
last_ids [] = []
last_ids (id ∷ ids) = (id ∷ ids) ∷ []

-- whether a piece ends before a change: it is full, and the change is of another transaction than its last
abbrev pub ends_before : ℕ → ℕ → ℕ → ℕ → Bool
ends_before max len tx last = nat_le max len && not (tx == last)

-- the numbers of changes in pieces, behind those of a piece that is begun
abbrev pub cut_on : ℕ → List ℕ → ℕ → List Change → List (List ℕ)
cut_on max piece last [] = last_ids piece
cut_on max piece last (change ∷ changes) =
    if ends_before max (length piece) change.tx last then piece ∷ cut_on max (change.id ∷ []) change.tx changes else cut_on max (piece ++ change.id ∷ []) change.tx changes

-- the numbers of the changes of the pieces that a routing run makes
abbrev pub ids_of : List Change → List ℕ
ids_of changes = map (λ (c : Change). c.id) changes

abbrev pub next_ids : State → List (List ℕ)
next_ids s = map (λ (piece : Piece). ids_of piece.changes) (route_pieces one s)

-- the batches to a peer of these pieces, with consecutive numbers from id on
abbrev pub out_batches : ℕ → List ℕ → List (List ℕ) → List OutBatch
out_batches id peer [] = []
out_batches id peer (changes ∷ pieces) = record { id = id; peer = peer; channel = 0; standing = New; changes = changes } ∷ out_batches (id + 1) peer pieces

-- what a routing run that makes so many batches is answered
abbrev pub batches_by : State → ℕ → Result ℕ NodeFault
batches_by s batches = if may_add s.counts.acts 1 && may_add s.counts.last_batch batches then Ok batches else Err Counters
