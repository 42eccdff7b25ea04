-- The registrations that a node opened, ascending by group and external id with a slash between.
use Rattle.std.specs.Prelude.{ℕ, Bool, true, false, if◌then◌else◌, List, [], ◌∷◌, map, Option}
use Rattle.std.specs.Str.{bytes_eq}
use Rattle.sds_value.specs.declared.row.Peer.{Peer}
use Rattle.sds_types.specs.declared.registration.Opening.{Opening}
use Rattle.sds_types.specs.declared.registration.Stage.{Stage}
use Rattle.sds_types.specs.declared.registration.Stage.TheVariants.{Waiting, Given, Closed}
use Rattle.sds_history.specs.history.Acts.{Act}
use Rattle.sds_history.specs.history.Acts.Act.{Opened, Joined, Confirmed}
use Rattle.sds_history.specs.history.Orders.{with_item, item_at, pair_key}

abbrev pub opening_key : Opening → List ℕ
opening_key opening = pair_key opening.group opening.external

-- the opening of a group and an external id
abbrev pub opening_of : List Opening → List ℕ → List ℕ → Option Opening
opening_of openings group external = item_at opening_key (pair_key group external) openings

-- an opening that is a child's is given to it
abbrev pub is_opening_of : Peer → Opening → Bool
is_opening_of peer opening =
    bytes_eq (opening_key opening) (pair_key peer.group peer.external)

abbrev pub given_to : Peer → Opening → Opening
given_to peer opening =
    if is_opening_of peer opening then record opening { stage = Given peer.id } else opening

abbrev pub given_if : Bool → Peer → List Opening → List Opening
given_if true peer openings = map (given_to peer) openings
given_if false peer openings = openings

-- an opening that was given to a peer is closed when the peer is confirmed
abbrev pub closed_stage : List ℕ → Stage → Stage
closed_stage peer Waiting = Waiting
closed_stage peer (Given node) = if bytes_eq node peer then Closed node else Given node
closed_stage peer (Closed node) = Closed node

abbrev pub closed_for : List ℕ → Opening → Opening
closed_for peer opening = record opening { stage = closed_stage peer opening.stage }

abbrev pub openings_by : Act → List Opening → List Opening
openings_by (Opened group external token) openings = with_item opening_key
    (record { group = group; external = external; token = token; stage = Waiting }) openings
openings_by (Joined kept) openings = given_if kept.child kept.peer openings
openings_by (Confirmed peer) openings = map (closed_for peer) openings
openings_by act openings = openings

-- the openings at first, and what was made of them and others since
abbrev pub openings_after : List Opening → List Act → List Opening
openings_after openings [] = openings
openings_after openings (act ∷ older) = openings_by act (openings_after openings older)

-- an opening is given to a peer and not closed yet
abbrev pub is_given_to : List ℕ → Stage → Bool
is_given_to peer Waiting = false
is_given_to peer (Given node) = bytes_eq node peer
is_given_to peer (Closed node) = false

-- an opening was given to a peer, closed or not
abbrev pub went_to : List ℕ → Stage → Bool
went_to peer Waiting = false
went_to peer (Given node) = bytes_eq node peer
went_to peer (Closed node) = bytes_eq node peer
