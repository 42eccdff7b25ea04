-- A node makes a message to a peer.
use Rattle.std.specs.Prelude.{ℕ, ◌+◌, Bool, false, if◌then◌else◌, List, [], ◌∷◌, ◌++◌, length, Option, None, Some, Ok, Err}
use Rattle.std.specs.List.{sum_by}
use Rattle.std.specs.Option.{option_map_or}
use Rattle.sds_types.specs.declared.config.Config.{Config}
use Rattle.sds_types.specs.declared.message.MessagePart.{MessagePart}
use Rattle.sds_types.specs.declared.peer.KeptPeer.{KeptPeer}
use Rattle.sds_types.specs.declared.sync.SyncRefusal.TheVariants.{NoWay}
use Rattle.sds_history.specs.history.Acts.{State}
use Rattle.sds_history.specs.history.Links.{has_way}
use Rattle.sds_history.specs.history.Messages.{parts_of}
use Rattle.sds_history.specs.history.Peers.{kept_peer}
use Rattle.sds_history.specs.world.Happened.{Happened, tells, quiet}
use Rattle.sds_history.specs.world.Happened.Told.{Sending}
use Rattle.sds_history.specs.world.Worlds.{Node, World, state_in}

-- a node has a peer, and a link leads to it, or from it
abbrev pub may_send : Config → State → List ℕ → Bool
may_send config state to = option_map_or
    (λ (kept : KeptPeer). has_way config state.me.group kept.peer.group) (kept_peer state.peers to)
    false

abbrev pub may_take : Config → State → List ℕ → Bool
may_take config state from = option_map_or
    (λ (kept : KeptPeer). has_way config kept.peer.group state.me.group)
    (kept_peer state.peers from) false

-- how many batches parts have
abbrev pub batch_count : List MessagePart → ℕ
batch_count parts = sum_by (λ (part : MessagePart). part.count) parts

abbrev pub with_message : World → List ℕ → List ℕ → List MessagePart → World
with_message world from to parts = record world {
  messages = world.messages ++ record { from = from; to = to; parts = parts } ∷ [];
}

abbrev pub sent_parts : World → List ℕ → List ℕ → List MessagePart → Happened
sent_parts world from to parts = tells (with_message world from to parts)
    (Sending from to (Ok (length world.messages + 1, batch_count parts)))

abbrev pub sent : Config → World → List ℕ → List ℕ → List ℕ → Option Node → Happened
sent config world from to channels None = quiet world
sent config world from to channels (Some node) = let state = state_in config node in
    if may_send config state to
    then sent_parts world from to (parts_of config state to channels)
    else tells world (Sending from to (Err NoWay))
