-- What a node answers that is asked which batches go next.
use Rattle.std.specs.Prelude.{ℕ, if◌then◌else◌, is_some, List, Result, Ok, Err}
use Rattle.sds_types.specs.declared.config.Config.{Config}
use Rattle.sds_types.specs.declared.load_answer.PeerRefusal.{PeerRefusal}
use Rattle.sds_types.specs.declared.load_answer.PeerRefusal.TheVariants.{UnknownNode}
use Rattle.sds_history.specs.history.Acts.{State}
use Rattle.sds_history.specs.history.Messages.{offer_of}
use Rattle.sds_history.specs.history.Peers.{kept_peer}

-- OFFER: no peer; and else the numbers
abbrev pub offer_answer : Config → State → List ℕ → List ℕ → Result (List ℕ) PeerRefusal
offer_answer config state to channels =
    if is_some (kept_peer state.peers to) then Ok (offer_of config state to channels)
    else Err UnknownNode
