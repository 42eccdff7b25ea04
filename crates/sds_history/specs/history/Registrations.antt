-- What a node answers to openings, registrations and confirmations, and the acts that it makes.
use Rattle.std.specs.Prelude.{ℕ, Bool, true, false, ◌&&◌, ◌||◌, not, nat_le, if◌then◌else◌, List, length, Option, None, Some, is_some, Result, Ok, Err}
use Rattle.std.specs.List.{list_any}
use Rattle.std.specs.Str.{bytes_eq}
use Rattle.sds_value.specs.Binaries.{coded_text}
use Rattle.sds_value.specs.declared.kind.Binary.TheVariants.{Hex}
use Rattle.sds_value.specs.declared.row.Peer.{Peer}
use Rattle.sds_types.specs.Limits.{most_peers}
use Rattle.sds_types.specs.declared.config.Config.{Config}
use Rattle.sds_types.specs.declared.node_fault.NodeFault.{NodeFault}
use Rattle.sds_types.specs.declared.registration.Opening.{Opening}
use Rattle.sds_types.specs.declared.registration.RegRefusal.{RegRefusal}
use Rattle.sds_types.specs.declared.registration.RegRefusal.TheVariants.{NotOpen, UnknownGroup, AlreadyOpen, IdTaken, TooManyNodes, Fault}
use Rattle.sds_types.specs.declared.registration.Stage.{Stage}
use Rattle.sds_types.specs.declared.registration.Stage.TheVariants.{Waiting, Given, Closed}
use Rattle.sds_history.specs.history.Acts.{Act, State}
use Rattle.sds_history.specs.history.Acts.Act.{Opened, Joined, Confirmed}
use Rattle.sds_history.specs.history.Counters.{act_if, answer_within, within}
use Rattle.sds_history.specs.history.Links.{are_linked}
use Rattle.sds_history.specs.history.Openings.{is_given_to, opening_of, went_to}
use Rattle.sds_history.specs.history.Peers.{kept_peer}

-- OPEN. The token is the noise in hexadecimal digits
abbrev pub token_of : List ℕ → List ℕ
token_of noise = coded_text Hex noise

abbrev pub own_open_answer : Config → State → List ℕ → List ℕ → Result (Unit {0}) RegRefusal
own_open_answer config state group external =
    if not (are_linked config group state.me.group) then Err UnknownGroup
    else (if is_some (opening_of state.openings group external) then Err AlreadyOpen
    else Ok tt)

abbrev pub act_by : {A : Type 0} → Act → Result A RegRefusal → Option Act
act_by act (Ok value) = Some act
act_by act (Err refusal) = None

abbrev pub next_open : Config → State → List ℕ → List ℕ → List ℕ → Option Act
next_open config state group external noise =
    act_by (Opened group external (token_of noise)) (own_open_answer config state group external)

-- no link between the groups; an opening that stands, closed or not; a counter; and else it is made
abbrev pub open_answer : Config → State → List ℕ → List ℕ → List ℕ → Result (Unit {0}) RegRefusal
open_answer config state group external noise = answer_within Fault config state
    (next_open config state group external noise) (own_open_answer config state group external)

abbrev pub open_act : Config → State → List ℕ → List ℕ → List ℕ → Option Act
open_act config state group external noise =
    within config state (next_open config state group external noise)

-- no further peer may be kept
abbrev pub is_full : State → Bool
is_full state = nat_le most_peers (length state.peers)

-- REGISTER. An opening may be given to a node: it waits, or was given to this node
abbrev pub may_have : List ℕ → Stage → Bool
may_have id Waiting = true
may_have id (Given node) = bytes_eq node id
may_have id (Closed node) = bytes_eq node id

abbrev pub is_closed : Stage → Bool
is_closed (Closed node) = true
is_closed stage = false

-- an id is the node's, or a peer's to which the opening wasn't given, or the opening is another's
abbrev pub is_taken : State → Opening → List ℕ → Bool
is_taken state opening id = bytes_eq id state.me.id
    || ((is_some (kept_peer state.peers id) && not (went_to id opening.stage))
    || not (may_have id opening.stage))

abbrev pub given_answer : State → Peer → Opening → Result (List ℕ) RegRefusal
given_answer state asks opening =
    if is_closed opening.stage then Err NotOpen
    else (if is_taken state opening asks.id then Err IdTaken
    else (if not (is_some (kept_peer state.peers asks.id)) && is_full state then Err TooManyNodes
    else Ok opening.token))

abbrev pub own_register_answer : State → Peer → Result (List ℕ) RegRefusal
own_register_answer state asks = elim (opening_of state.openings asks.group asks.external) [
  | None ↦ Err NotOpen
  | Some opening ↦ given_answer state asks opening
]

-- the act that keeps a peer with a token, unless it is kept already
abbrev pub join_by : State → Peer → Bool → Result (List ℕ) RegRefusal → Option Act
join_by state peer child (Ok token) = if is_some (kept_peer state.peers peer.id) then None
    else Some (Joined (record { peer = peer; token = token; child = child }))
join_by state peer child (Err refusal) = None

abbrev pub next_register : State → Peer → Option Act
next_register state asks = join_by state asks true (own_register_answer state asks)

-- no opening, or a closed one; an id that is taken; too many peers; a counter; and else the token
abbrev pub register_answer : Config → State → Peer → Result (List ℕ) RegRefusal
register_answer config state asks = answer_within Fault config state
    (next_register state asks) (own_register_answer state asks)

abbrev pub register_act : Config → State → Peer → Option Act
register_act config state asks = within config state (next_register state asks)

-- CONFIRM. A peer has shown its token: an opening that is given to it and not closed yet is closed
abbrev pub is_open_for : State → List ℕ → Bool
is_open_for state peer =
    list_any (λ (opening : Opening). is_given_to peer opening.stage) state.openings

abbrev pub next_confirm : State → List ℕ → Option Act
next_confirm state peer = act_if (is_open_for state peer) (Confirmed peer)

-- a counter, and else it is done
abbrev pub confirm_answer : Config → State → List ℕ → Result (Unit {0}) NodeFault
confirm_answer config state peer =
    answer_within (λ fault. fault) config state (next_confirm state peer) (Ok tt)

abbrev pub confirm_act : Config → State → List ℕ → Option Act
confirm_act config state peer = within config state (next_confirm state peer)
