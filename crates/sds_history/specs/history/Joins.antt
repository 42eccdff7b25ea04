-- What a node answers that joins another at which it registered, and the act that it makes.
use Rattle.std.specs.Prelude.{ℕ, Bool, false, ◌&&◌, ◌||◌, not, if◌then◌else◌, List, Option, is_some, Result, Ok, Err}
use Rattle.std.specs.Option.{option_map_or}
use Rattle.std.specs.Str.{bytes_eq}
use Rattle.sds_value.specs.declared.row.Peer.{Peer}
use Rattle.sds_types.specs.declared.config.Config.{Config}
use Rattle.sds_types.specs.declared.peer.KeptPeer.{KeptPeer}
use Rattle.sds_types.specs.declared.registration.RegRefusal.{RegRefusal}
use Rattle.sds_types.specs.declared.registration.RegRefusal.TheVariants.{UnknownGroup, IdTaken, TooManyNodes, Fault}
use Rattle.sds_history.specs.history.Acts.{Act, State}
use Rattle.sds_history.specs.history.Counters.{answer_within, within}
use Rattle.sds_history.specs.history.Links.{are_linked}
use Rattle.sds_history.specs.history.Peers.{kept_peer}
use Rattle.sds_history.specs.history.Registrations.{is_full, join_by}

-- a peer is kept with these values: its group, its external id and its token
abbrev pub has_peer_values : Peer → List ℕ → KeptPeer → Bool
has_peer_values other token kept = bytes_eq kept.peer.group other.group
    && (bytes_eq kept.peer.external other.external && bytes_eq kept.token token)

-- an id is the node's, or a peer's with other values
abbrev pub is_another : State → Peer → List ℕ → Bool
is_another state other token = bytes_eq other.id state.me.id
    || option_map_or (λ (kept : KeptPeer). not (has_peer_values other token kept))
    (kept_peer state.peers other.id) false

abbrev pub own_join_answer : Config → State → Peer → List ℕ → Result (List ℕ) RegRefusal
own_join_answer config state other token =
    if not (are_linked config other.group state.me.group) then Err UnknownGroup
    else (if is_another state other token then Err IdTaken
    else (if not (is_some (kept_peer state.peers other.id)) && is_full state then Err TooManyNodes
    else Ok token))

abbrev pub next_join : Config → State → Peer → List ℕ → Option Act
next_join config state other token =
    join_by state other false (own_join_answer config state other token)

-- the token is no part of the answer
abbrev pub told_join : Result (List ℕ) RegRefusal → Result (Unit {0}) RegRefusal
told_join (Ok token) = Ok tt
told_join (Err refusal) = Err refusal

-- JOIN: no link between the groups; an id that is taken; too many peers; a counter; and else it is
-- kept
abbrev pub join_answer : Config → State → Peer → List ℕ → Result (Unit {0}) RegRefusal
join_answer config state other token = answer_within Fault config state
    (next_join config state other token) (told_join (own_join_answer config state other token))

abbrev pub join_act : Config → State → Peer → List ℕ → Option Act
join_act config state other token = within config state (next_join config state other token)
