-- Two nodes, the messages that the one made for the other and the replies to them.
-- A message that is never delivered is lost, and one may be delivered again and again, in any order; so may a reply.
use Rattle.std.specs.Prelude.{◌≡◌, ℕ, true, is_none, List, [], ◌∷◌, Option, None, Some, slice_get, All}
use Rattle.sds_value.specs.declared.row.Peer.{Peer}
use Rattle.sds_types.specs.declared.config.Config.{Config}
use Rattle.sds_types.specs.declared.ack.Ack.{Ack}
use Rattle.sds_types.specs.declared.tx_row.TxRow.{TxRow}
use Rattle.sds_first_spec.specs.Acts.{History}
use Rattle.sds_first_spec.specs.History.{state_of}
use Rattle.sds_first_spec.specs.InStep.{LaneInStep, PartInStep, is_taken}
use Rattle.sds_first_spec.specs.One.{paired}
use Rattle.sds_first_spec.specs.World.{Message, Reply, message_of, received_parts, acks_for_parts}
use Rattle.sds_first_laws.specs.Runs.{called}
use Rattle.sds_first_laws.specs.Runs.Call.{Write as MakeWrite, Route as MakeRoute, TakeAcks}

-- the messages and the replies ever made, the newest first
pub record Link : Type 0 where
  pub sender : History
  pub receiver : History
  pub messages : List Message
  pub replies : List Reply

-- a write or a routing run at the sender, a message made, one delivered and a reply answered, each by its place
pub data LinkEvent : Type 0 where
  Write : (writer : List ℕ) → (number : ℕ) → (rows : List TxRow) → LinkEvent
  Route : LinkEvent
  Send : LinkEvent
  Deliver : (which : ℕ) → LinkEvent
  Answer : (which : ℕ) → LinkEvent

-- the receiver takes a message's batches and makes a reply
abbrev pub delivered : Config → Link → Option Message → Link
delivered config l None = l
delivered config l (Some message) = record l {
  receiver = record { opening = l.receiver.opening; acts = received_parts config message.sender message.parts l.receiver.acts };
  replies = record { receiver = message.receiver; sender = message.sender; acks = acks_for_parts config message.sender message.parts l.receiver.acts } ∷ l.replies;
}

-- the sender takes a reply's acks
abbrev pub answered : Config → Link → Option Reply → Link
answered config l None = l
answered config l (Some reply) = record l { sender = called config l.sender (TakeAcks reply.receiver reply.acks) }

abbrev pub happened : Config → Link → LinkEvent → Link
happened config l (Write writer number rows) = record l { sender = called config l.sender (MakeWrite writer number rows) }
happened config l Route = record l { sender = called config l.sender MakeRoute }
happened config l Send = record l { messages = message_of config (state_of config l.sender) l.receiver.opening.me.id [] ∷ l.messages }
happened config l (Deliver which) = delivered config l (slice_get l.messages which)
happened config l (Answer which) = answered config l (slice_get l.replies which)

-- the link after events, the first of them first
abbrev pub link_after : Config → Link → List LinkEvent → Link
link_after config l [] = l
link_after config l (event ∷ events) = link_after config (happened config l event) events

-- two nodes that have begun as each other's peers
abbrev pub new_link : Peer → Peer → Link
new_link sender receiver = record {
  sender = record { opening = paired sender receiver; acts = [] };
  receiver = record { opening = paired receiver sender; acts = [] };
  messages = [];
  replies = [];
}

-- every lane of a link is in step, whatever is lost, repeated or reordered
abbrev pub LanesStayInStep : Type 0
LanesStayInStep = (config : Config) (sender receiver : Peer) (events : List LinkEvent) (channel : ℕ)
    → LaneInStep config (link_after config (new_link sender receiver) events).sender (link_after config (new_link sender receiver) events).receiver channel

-- each part of each message lies in what the sender made and begins at most behind what is loaded, and each ok of each reply names a loaded batch
pub record MessagesInStep (config : Config) (l : Link) : Type 0 where
  pub parts : All (λ (message : Message). All (PartInStep config l.sender l.receiver) message.parts) l.messages
  pub oks : All (λ (reply : Reply). All (λ (ack : Ack). is_none ack.error ≡ true → is_taken l.sender.opening.me.id ack.batch l.receiver.acts ≡ true) reply.acks) l.replies

-- all messages and replies ever made are in step, whatever is lost, repeated or reordered
abbrev pub MessagesStayInStep : Type 0
MessagesStayInStep = (config : Config) (sender receiver : Peer) (events : List LinkEvent) → MessagesInStep config (link_after config (new_link sender receiver) events)
