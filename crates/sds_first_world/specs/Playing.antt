-- What the nodes of a rehearsal have to do with those of a world.
use Rattle.std.specs.Prelude.{◌≡◌, ℕ, ◌<◌, ◌^◌, Bool, true, false, if◌then◌else◌, List, [], ◌∷◌, length, map, Option, None, Some, All, slice_index_or, slice_set}
use Rattle.std.specs.Str.{bytes_eq}
use Rattle.sds_value.specs.declared.row.DocRow.{DocRow}
use Rattle.sds_value.specs.declared.row.Peer.{Peer}
use Rattle.sds_first_spec.specs.declared.batch.Sent.{Sent}
use Rattle.sds_first_spec.specs.declared.event.WorldEvent.{WorldEvent}
use Rattle.sds_first_spec.specs.declared.event.WorldEvent.TheVariants.{Node, Open, Register, Write, Route, Push, Show}
use Rattle.sds_first_spec.specs.Acts.{Act, History}
use Rattle.sds_first_spec.specs.Happens.{with_history_acts}
use Rattle.sds_first_spec.specs.One.{one, begun}
use Rattle.sds_first_spec.specs.Outcome.{is_whole_insert}
use Rattle.sds_first_spec.specs.World.{Message, World, history_of, received_parts, acks_for_parts}
use Rattle.sds_first_laws.specs.Loads.{after_loads, loads_acks}
use Rattle.sds_first_laws.specs.Pairs.{PairFacts}
use Rattle.sds_first_node.specs.Meaning.{StandsFor}
use Rattle.sds_first_world.specs.declared.nodes.Named.{Named}
use Rattle.sds_first_world.specs.declared.stage.Stage.{Stage}

-- the node has this id
abbrev pub is_called : List ℕ → Named → Bool
is_called id named = bytes_eq named.id id

-- a node stands for a history of a node of its id
pub record NodePlays (named : Named) (h : History) : Type 0 where
  pub called : named.id ≡ h.opening.me.id
  pub stands : StandsFor named.node h

-- the nodes stand for these histories, one for one
abbrev pub NodesPlay : List Named → List History → Type 0
NodesPlay [] [] = Unit {0}
NodesPlay [] (h ∷ hs) = ⊥
NodesPlay (named ∷ nodes) [] = ⊥
NodesPlay (named ∷ nodes) (h ∷ hs) = NodePlays named h × NodesPlay nodes hs

-- the history of an id is the one for which the node at a place stands, and another node there stands for further acts of it
pub record HistoryAt (id : List ℕ) (nodes : List Named) (place : ℕ) (hs : List History) : Type 0 where
  pub h : History
  pub found : history_of id hs ≡ Some h
  pub plays : (named : Named) → named ≡ slice_index_or nodes place named → NodePlays named h
  pub put : (named : Named) (acts : List Act) → NodePlays named (record { opening = h.opening; acts = acts }) → NodesPlay (slice_set nodes place named) (with_history_acts id acts hs)

-- whatever these nodes stand for, there is no history of the id
pub record IsNowhere (id : List ℕ) (nodes : List Named) : Type 0 where
  pub absent : (hs : List History) (h : History) → NodesPlay nodes hs → history_of id hs ≡ Some h → ⊥

-- whatever these nodes stand for, the history of the id is the one at this place
pub record IsPlaced (id : List ℕ) (nodes : List Named) (place : ℕ) : Type 0 where
  pub within : place < length nodes
  pub at : (hs : List History) → NodesPlay nodes hs → HistoryAt id nodes place hs

-- the first of these peers that has an id
abbrev pub peer_called : List ℕ → List Peer → Option Peer
peer_called id [] = None
peer_called id (peer ∷ peers) = if bytes_eq peer.id id then Some peer else peer_called id peers

abbrev pub me_of : History → Peer
me_of h = h.opening.me

-- before its nodes have met, a stage keeps their peers and no node
pub record Waits (stage : Stage) (w : World) : Type 0 where
  pub none : stage.nodes.items ≡ []
  pub peers : stage.peers.items ≡ map me_of w.nodes
  pub messages : stage.messages ≡ length w.messages
  pub replies : stage.replies ≡ length w.replies

-- once they have, its nodes stand for those of the world, and it counts the world's messages and replies
pub record Stands (stage : Stage) (w : World) : Type 0 where
  pub nodes : NodesPlay stage.nodes.items w.nodes
  pub messages : stage.messages ≡ length w.messages
  pub replies : stage.replies ≡ length w.replies

abbrev pub beginning : Peer → History
beginning peer = record { opening = begun peer []; acts = [] }

-- the world has two nodes, which have not met: the one at which the other asks to register stands first
pub record AreToMeet (asks at : List ℕ) (w : World) : Type 0 where
  pub parent : Peer
  pub child : Peer
  pub nodes : w.nodes ≡ beginning parent ∷ (beginning child ∷ [])
  pub is_parent : parent.id ≡ at
  pub is_child : child.id ≡ asks
  pub apart : bytes_eq parent.id child.id ≡ false

-- the batches are a message's, and the calls of its receiver make what its delivery makes
pub record TakesAs (message : Message) (sents : List Sent) (h : History) : Type 0 where
  pub whole : All (λ (sent : Sent). All (λ (doc : DocRow). is_whole_insert one doc ≡ true) sent.rows) sents
  pub takes : after_loads one message.sender 0 sents h ≡ record { opening = h.opening; acts = received_parts one message.sender message.parts h.acts }
  pub says : loads_acks one message.sender 0 sents h ≡ acks_for_parts one message.sender message.parts h.acts

-- a node of this id is in the world
pub record IsThere (id : List ℕ) (w : World) : Type 0 where
  pub h : History
  pub found : history_of id w.nodes ≡ Some h

-- the world is one of two nodes that have met, with few messages and replies so far
pub record MayPush (from to : List ℕ) (w : World) : Type 0 where
  pub sender : Peer
  pub receiver : Peer
  pub is_sender : sender.id ≡ from
  pub is_receiver : receiver.id ≡ to
  pub apart : bytes_eq sender.id receiver.id ≡ false
  pub facts : PairFacts sender receiver w
  pub few_messages : length w.messages < 2 ^ 62
  pub few_replies : length w.replies < 2 ^ 62

-- what has to hold of a stage and a world so that an event may happen
abbrev pub MayPlay : WorldEvent → Stage → World → Type 0
MayPlay (Node peer) stage w = Waits stage w
MayPlay (Open at group external) stage w = Waits stage w
MayPlay (Register asks at) stage w = Waits stage w × AreToMeet asks at w
MayPlay (Write node writer number rows) stage w = Stands stage w × IsThere node w
MayPlay (Route node) stage w = Stands stage w × IsThere node w
MayPlay (Push from to) stage w = Stands stage w × MayPush from to w
MayPlay (Show node) stage w = Stands stage w × IsThere node w

-- and what holds of them when it has happened
abbrev pub HasPlayed : WorldEvent → Stage → World → Type 0
HasPlayed (Node peer) stage w = Waits stage w
HasPlayed (Open at group external) stage w = Waits stage w
HasPlayed (Register asks at) stage w = Stands stage w
HasPlayed (Write node writer number rows) stage w = Stands stage w
HasPlayed (Route node) stage w = Stands stage w
HasPlayed (Push from to) stage w = Stands stage w
HasPlayed (Show node) stage w = Stands stage w
