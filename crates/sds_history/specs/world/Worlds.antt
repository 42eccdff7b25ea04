-- A world: its nodes, and the messages and replies that were made, by number.
use Rattle.std.specs.Prelude.{ℕ, ◌-◌, Bool, if◌then◌else◌, List, [], ◌∷◌, ◌++◌, map, Option, slice_get}
use Rattle.std.specs.List.{find}
use Rattle.std.specs.Str.{bytes_eq}
use Rattle.sds_value.specs.declared.row.Peer.{Peer}
use Rattle.sds_types.specs.declared.config.Config.{Config}
use Rattle.sds_types.specs.declared.message.Message.{Message}
use Rattle.sds_types.specs.declared.message.Reply.{Reply}
use Rattle.sds_history.specs.history.Acts.{History, State}
use Rattle.sds_history.specs.history.States.{new_state, state_of}

-- a node: its history, and the faults that its next commits meet, each with whether the commit
-- stands nevertheless
pub record Node : Type 0 where
  pub history : History
  pub faults : List Bool

pub record World : Type 0 where
  pub nodes : List Node
  pub messages : List Message
  pub replies : List Reply

abbrev pub empty_world : World
empty_world = record { nodes = []; messages = []; replies = [] }

abbrev pub state_in : Config → Node → State
state_in config node = state_of config node.history

abbrev pub me_of : Node → Peer
me_of node = node.history.opening.me

abbrev pub has_id : List ℕ → Node → Bool
has_id id node = bytes_eq (me_of node).id id

-- the node of an id
abbrev pub node_at : World → List ℕ → Option Node
node_at world id = find (has_id id) world.nodes

-- a new node
abbrev pub new_node : Peer → Node
new_node me = record { history = record { opening = new_state me; acts = [] }; faults = [] }

abbrev pub with_new_node : World → Peer → World
with_new_node world me = record world { nodes = world.nodes ++ new_node me ∷ [] }

-- the world with a node in the place of the one with its id
abbrev pub one_for : Node → Node → Node
one_for new node = if has_id (me_of new).id node then new else node

abbrev pub with_node : World → Node → World
with_node world new = record world { nodes = map (one_for new) world.nodes }

-- messages and replies go by numbers from 1
abbrev pub message_of : World → ℕ → Option Message
message_of world number = slice_get world.messages (number - 1)

abbrev pub reply_of : World → ℕ → Option Reply
reply_of world number = slice_get world.replies (number - 1)
