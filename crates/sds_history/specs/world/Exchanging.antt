-- A push or a pull: a message is sent, delivered and answered, as far as it goes.
use Rattle.std.specs.Prelude.{ℕ, Bool, true, false, ◌==◌, if◌then◌else◌, List, [], ◌∷◌, ◌++◌, Option, None, Some, Ok}
use Rattle.std.specs.Option.{option_map_or}
use Rattle.sds_types.specs.declared.config.Config.{Config}
use Rattle.sds_types.specs.declared.peer.KeptPeer.{KeptPeer}
use Rattle.sds_history.specs.history.Acts.{State}
use Rattle.sds_history.specs.history.Links.{has_pull, has_push}
use Rattle.sds_history.specs.history.Peers.{kept_peer}
use Rattle.sds_history.specs.world.Answering.{answered_reply}
use Rattle.sds_history.specs.world.Delivering.{delivered}
use Rattle.sds_history.specs.world.Happened.{Happened, Told, tells, quiet}
use Rattle.sds_history.specs.world.Happened.Told.{Sending, Delivering, NoPush, NoPull}
use Rattle.sds_history.specs.world.Sending.{sent}
use Rattle.sds_history.specs.world.Worlds.{Node, World, message_of, reply_of, state_in}

-- a link of the kind leads from a node to a peer
abbrev pub may_exchange : (List ℕ → List ℕ → Bool) → State → List ℕ → Bool
may_exchange leads state to = option_map_or
    (λ (kept : KeptPeer). leads state.me.group kept.peer.group) (kept_peer state.peers to) false

-- what comes next after what was told: a message with batches is delivered, and a reply is answered
abbrev pub next_step : Config → World → List Told → Happened
next_step config world (Sending from to (Ok message) ∷ []) = if message.1 == 0 then quiet world
    else delivered config world message.0 [] (message_of world message.0)
next_step config world (Delivering number (Ok reply) ∷ []) =
    answered_reply config world reply.0 (reply_of world reply.0)
next_step config world told = quiet world

-- two things that happen one after another
abbrev pub after_told : Happened → Happened → Happened
after_told first next = record { world = next.world; told = first.told ++ next.told }

-- what was told last decides what comes next
abbrev pub then_next : Config → Happened → Happened
then_next config first = after_told first (next_step config first.world first.told)

abbrev pub exchanged : Config → Happened → Happened
exchanged config message =
    after_told message (then_next config (next_step config message.world message.told))

abbrev pub exchanged_if : Bool → Config → World → List ℕ → List ℕ → Node → Told → Happened
exchanged_if true config world from to node none =
    exchanged config (sent config world from to [] (Some node))
exchanged_if false config world from to node none = tells world none

abbrev pub pushed : Config → World → List ℕ → List ℕ → Option Node → Happened
pushed config world from to None = quiet world
pushed config world from to (Some node) =
    exchanged_if (may_exchange (has_push config) (state_in config node) to) config world from to
    node (NoPush from to)

abbrev pub pulled : Config → World → List ℕ → List ℕ → Option Node → Happened
pulled config world to from None = quiet world
pulled config world to from (Some node) =
    exchanged_if (may_exchange (has_pull config) (state_in config node) to) config world from to
    node (NoPull to from)
