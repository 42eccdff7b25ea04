-- What each event makes of a world.
use Rattle.std.specs.Prelude.{ℕ, ◌==◌, if◌then◌else◌, List, [], ◌∷◌, ◌++◌, length, sum_by, Option, None, Some}
use Rattle.std.specs.Option.{option_map_or}
use Rattle.sds_value.specs.declared.row.Peer.{Peer}
use Rattle.sds_types.specs.declared.config.Config.{Config}
use Rattle.sds_first_spec.specs.declared.event.WorldEvent.{WorldEvent}
use Rattle.sds_first_spec.specs.declared.event.WorldEvent.TheVariants.{Node, Open, Register, Write, Route, Push, Show}
use Rattle.sds_types.specs.declared.tx_row.TxRow.{TxRow}
use Rattle.sds_first_spec.specs.Acts.{Act, History}
use Rattle.sds_first_spec.specs.Calls.{write_answer, write_acts, route_answer, route_acts, acks_answer, acks_acts}
use Rattle.sds_first_spec.specs.History.{state_of}
use Rattle.sds_first_spec.specs.One.{begun, paired}
use Rattle.sds_first_spec.specs.World.{Part, Message, Reply, World, history_of, is_node, with_acts, message_of, received_parts, acks_for_parts}

-- how many batches a message holds
abbrev pub batches_in : Message → ℕ
batches_in message = sum_by (λ (part : Part). length part.batches) message.parts

-- the acts that a call makes at the node of a name, where there is one
abbrev pub acts_at : List ℕ → World → (History → List Act) → List Act
acts_at id w call = option_map_or call (history_of id w.nodes) []

abbrev pub write_at : Config → List ℕ → ℕ → List TxRow → History → List Act
write_at config writer number rows h = write_acts (write_answer config (state_of config h) writer number rows) writer number rows

abbrev pub route_at : Config → History → List Act
route_at config h = route_acts (route_answer config (state_of config h)) (state_of config h)

-- SEND. A message is made of the lanes as they stand.
abbrev pub message_from : Config → List ℕ → List ℕ → World → Message
message_from config sender receiver w =
    option_map_or (λ (h : History). message_of config (state_of config h) receiver []) (history_of sender w.nodes)
    (record { sender = sender; receiver = receiver; parts = [] })

abbrev pub sent : Config → List ℕ → List ℕ → World → World
sent config sender receiver w = record w { messages = message_from config sender receiver w ∷ w.messages }

-- DELIVER. The receiver takes a message's batches and makes a reply.
abbrev pub acts_of : List ℕ → World → List Act
acts_of id w = option_map_or (λ (h : History). h.acts) (history_of id w.nodes) []

abbrev pub with_history_acts : List ℕ → List Act → List History → List History
with_history_acts id acts [] = []
with_history_acts id acts (h ∷ nodes) = if is_node id h then record h { acts = acts } ∷ nodes else h ∷ with_history_acts id acts nodes

abbrev pub reply_to : Config → Message → World → Reply
reply_to config message w =
    record { receiver = message.receiver; sender = message.sender; acks = acks_for_parts config message.sender message.parts (acts_of message.receiver w) }

abbrev pub delivered : Config → Message → World → World
delivered config message w = record w {
  nodes = with_history_acts message.receiver (received_parts config message.sender message.parts (acts_of message.receiver w)) w.nodes;
  replies = reply_to config message w ∷ w.replies;
}

-- ANSWER. The sender takes a reply's acks.
abbrev pub acks_at : Config → Reply → History → List Act
acks_at config reply h = acks_acts (acks_answer (state_of config h) reply.receiver reply.acks) reply.receiver reply.acks

abbrev pub answered : Config → Reply → World → World
answered config reply w = record w { nodes = with_acts reply.sender (acts_at reply.sender w (acks_at config reply)) w.nodes }

-- a push sends a message and, where it holds a batch, delivers it and answers its reply
abbrev pub pushed_by : ℕ → Config → Message → World → World
pushed_by batches config message w =
    if batches == 0 then w else answered config (reply_to config message w) (delivered config message w)

abbrev pub pushed : Config → List ℕ → List ℕ → World → World
pushed config sender receiver w =
    pushed_by (batches_in (message_from config sender receiver w)) config (message_from config sender receiver w) (sent config sender receiver w)

-- a node that registers, and the one where it does, have begun as each other's peers; acts of registration come later
abbrev pub met : Peer → Peer → List History → List History
met child parent [] = []
met child parent (h ∷ nodes) =
    (if is_node child.id h then record h { opening = paired child parent } else
    if is_node parent.id h then record h { opening = paired parent child } else h) ∷ met child parent nodes

abbrev pub registered : Option History → Option History → List History → List History
registered (Some child) (Some parent) nodes = met child.opening.me parent.opening.me nodes
registered None parent nodes = nodes
registered child None nodes = nodes

abbrev pub happens : Config → World → WorldEvent → World
happens config w (Node peer) = record w { nodes = w.nodes ++ record { opening = begun peer []; acts = [] } ∷ [] }
happens config w (Open at group external) = w
happens config w (Register asks at) = record w { nodes = registered (history_of asks w.nodes) (history_of at w.nodes) w.nodes }
happens config w (Write node writer number rows) = record w { nodes = with_acts node (acts_at node w (write_at config writer number rows)) w.nodes }
happens config w (Route node) = record w { nodes = with_acts node (acts_at node w (route_at config)) w.nodes }
happens config w (Push sender receiver) = pushed config sender receiver w
happens config w (Show node) = w

-- the world after events, the first of them first
abbrev pub world_after : Config → World → List WorldEvent → World
world_after config w [] = w
world_after config w (event ∷ events) = world_after config (happens config w event) events
