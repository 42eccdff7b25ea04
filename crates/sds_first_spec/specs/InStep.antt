-- Nodes are in step: what holds of every world that events alone have made.
use Rattle.std.specs.Prelude.{◌≡◌, ℕ, ◌+◌, ◌≤◌, Bool, true, false, ◌&&◌, ◌==◌, nat_lt, nat_le, is_none, is_some, if◌then◌else◌, List, [], ◌∷◌, ◌++◌, length, map, take, drop, All, count_by, sum_by, IfSome}
use Rattle.std.specs.List.{list_any}
use Rattle.std.specs.Str.{bytes_eq}
use Rattle.sds_types.specs.declared.config.Config.{Config}
use Rattle.sds_types.specs.declared.ack.Ack.{Ack}
use Rattle.sds_types.specs.declared.batch.OutBatch.{OutBatch}
use Rattle.sds_first_spec.specs.declared.batch.Sent.{Sent}
use Rattle.sds_types.specs.declared.peer.KeptPeer.{KeptPeer}
use Rattle.sds_types.specs.declared.row.Change.{Change}
use Rattle.sds_first_spec.specs.declared.row.LoadRow.{LoadRow}
use Rattle.sds_types.specs.declared.row.TableRow.{TableRow}
use Rattle.sds_first_spec.specs.Acts.{Act, State, History}
use Rattle.sds_first_spec.specs.Acts.Act.{Wrote, Routed, Loaded, Acked}
use Rattle.sds_first_spec.specs.History.{state_of, tables_of, changes_of, routed_of, batches_of}
use Rattle.sds_first_spec.specs.Lanes.{made, acked, loaded, rows_of}
use Rattle.sds_first_spec.specs.Outcome.{read_rows}
use Rattle.sds_first_spec.specs.Routing.{is_named}
use Rattle.sds_first_spec.specs.World.{Part, Message, Reply, World, sent_of, history_of}

-- WRITERS. The numbers of a writer's writes, the newest first.
abbrev pub numbers_of : List ℕ → List Act → List ℕ
numbers_of name [] = []
numbers_of name (Wrote writer number rows ∷ acts) = if bytes_eq writer name then number ∷ numbers_of name acts else numbers_of name acts
numbers_of name (Routed ∷ acts) = numbers_of name acts
numbers_of name (Loaded from channel batch rows ∷ acts) = numbers_of name acts
numbers_of name (Acked from acks ∷ acts) = numbers_of name acts

-- n, n - 1 and so on down to 1
abbrev pub IsCountdown : List ℕ → Type 0
IsCountdown [] = Unit {0}
IsCountdown (n ∷ ns) = (n ≡ length ns + 1) × IsCountdown ns

-- each writer's writes at a node have the numbers 1, 2, 3 and so on
abbrev pub WritersInOrder : History → Type 0
WritersInOrder h = (writer : List ℕ) → IsCountdown (numbers_of writer h.acts)

-- LANES. A batch as the receiver took it: its number and its rows as they were read.
abbrev pub Taken : Type 0
Taken = ℕ × List LoadRow

-- what a receiver has loaded from a sender in a channel, the first first
abbrev pub taken_of : List ℕ → ℕ → List Act → List Taken
taken_of sender channel [] = []
taken_of sender channel (Wrote writer number rows ∷ acts) = taken_of sender channel acts
taken_of sender channel (Routed ∷ acts) = taken_of sender channel acts
taken_of sender channel (Loaded from place batch rows ∷ acts) =
    if bytes_eq from sender && place == channel then taken_of sender channel acts ++ (batch, rows) ∷ [] else taken_of sender channel acts
taken_of sender channel (Acked from acks ∷ acts) = taken_of sender channel acts

abbrev pub taken_as : Config → State → OutBatch → Taken
taken_as config s batch = (batch.id, read_rows config 1 (rows_of config s batch))

-- a receiver has loaded a front of the sender's batches, each once and in order, and the sender knows of a front of that
pub record LaneInStep (config : Config) (sender receiver : History) (channel : ℕ) : Type 0 where
  pub front : taken_of sender.opening.me.id channel receiver.acts
      ≡ take (loaded sender.opening.me.id channel receiver.acts) (map (taken_as config (state_of config sender)) (made (state_of config sender) receiver.opening.me.id channel))
  pub known : acked (state_of config sender) receiver.opening.me.id channel ≤ loaded sender.opening.me.id channel receiver.acts
  pub within : loaded sender.opening.me.id channel receiver.acts ≤ length (made (state_of config sender) receiver.opening.me.id channel)

-- every batch loaded came from a node of the world, in a channel of the configuration
abbrev pub EachFromNode : Config → List History → List Act → Type 0
EachFromNode config nodes [] = Unit {0}
EachFromNode config nodes (Wrote writer number rows ∷ acts) = EachFromNode config nodes acts
EachFromNode config nodes (Routed ∷ acts) = EachFromNode config nodes acts
EachFromNode config nodes (Loaded from channel batch rows ∷ acts) =
    (is_some (history_of from nodes) ≡ true) × ((nat_lt channel (length config.channels) ≡ true) × EachFromNode config nodes acts)
EachFromNode config nodes (Acked from acks ∷ acts) = EachFromNode config nodes acts

-- MESSAGES. A part of a message lies in what was made, and begins at most behind what is loaded.
pub record PartInStep (config : Config) (sender receiver : History) (part : Part) : Type 0 where
  pub lies : (rest : List Sent) × (part.batches ++ rest ≡ map (sent_of config (state_of config sender)) (drop part.start (made (state_of config sender) receiver.opening.me.id part.channel)))
  pub begins : part.start ≤ loaded sender.opening.me.id part.channel receiver.acts

abbrev pub MessageInStep : Config → List History → Message → Type 0
MessageInStep config nodes message =
    IfSome (history_of message.sender nodes) (λ (sender : History). IfSome (history_of message.receiver nodes) (λ (receiver : History).
    All (PartInStep config sender receiver) message.parts))

-- each ack of a reply that says loaded names a batch that the receiver has loaded
abbrev pub is_taken : List ℕ → ℕ → List Act → Bool
is_taken sender batch [] = false
is_taken sender batch (Wrote writer number rows ∷ acts) = is_taken sender batch acts
is_taken sender batch (Routed ∷ acts) = is_taken sender batch acts
is_taken sender batch (Loaded from channel id rows ∷ acts) = if bytes_eq from sender && id == batch then true else is_taken sender batch acts
is_taken sender batch (Acked from acks ∷ acts) = is_taken sender batch acts

abbrev pub ReplyInStep : List History → Reply → Type 0
ReplyInStep nodes reply =
    IfSome (history_of reply.receiver nodes) (λ (receiver : History). All (λ (ack : Ack). is_none ack.error ≡ true → is_taken reply.sender ack.batch receiver.acts ≡ true) reply.acks)

-- ROUTING. The tables at the routing run that took a change, which is the first after it; said only of changes that a run took.
abbrev pub tables_at_routing : Config → State → ℕ → List Act → List TableRow
tables_at_routing config opening id [] = opening.tables
tables_at_routing config opening id (Wrote writer number rows ∷ acts) = tables_at_routing config opening id acts
tables_at_routing config opening id (Routed ∷ acts) =
    if nat_le id (routed_of config opening acts) then tables_at_routing config opening id acts else tables_of config opening acts
tables_at_routing config opening id (Loaded from channel batch rows ∷ acts) = tables_at_routing config opening id acts
tables_at_routing config opening id (Acked from acks ∷ acts) = tables_at_routing config opening id acts

-- how many times a change stands in the batches to a peer in a channel
abbrev pub times_in : List ℕ → ℕ → ℕ → List OutBatch → ℕ
times_in peer channel id batches =
    sum_by (λ (b : OutBatch). if bytes_eq b.peer peer && b.channel == channel then count_by (λ (c : ℕ). c == id) b.changes else 0) batches

-- once where its routers name the peer, and it is of the channel, else never
abbrev pub times_named : Config → History → Change → KeptPeer → ℕ → ℕ
times_named config h change kept channel =
    if change.channel == channel && is_named config h.opening.me (tables_at_routing config h.opening change.id h.acts) change kept.peer then 1 else 0

-- each routed change stands in exactly the batches to the peers that its routers named at its routing run
abbrev pub RoutedOnce : Config → History → Type 0
RoutedOnce config h = All (λ (change : Change).
    nat_le change.id (routed_of config h.opening h.acts) ≡ true →
    All (λ (kept : KeptPeer). (channel : ℕ) → times_in kept.peer.id channel change.id (batches_of config h.opening h.acts) ≡ times_named config h change kept channel) h.opening.peers)
    (changes_of config h.opening h.acts)

-- every batch goes to a peer
abbrev pub EachToPeer : List KeptPeer → List OutBatch → Type 0
EachToPeer peers batches = All (λ (b : OutBatch). list_any (λ (kept : KeptPeer). bytes_eq kept.peer.id b.peer) peers ≡ true) batches

-- all of it; what is said of batches in error comes later
pub record InStep (config : Config) (w : World) : Type 0 where
  pub writers : All WritersInOrder w.nodes
  pub lanes : All (λ (sender : History). All (λ (receiver : History). (channel : ℕ) → LaneInStep config sender receiver channel) w.nodes) w.nodes
  pub from_nodes : All (λ (h : History). EachFromNode config w.nodes h.acts) w.nodes
  pub messages : All (MessageInStep config w.nodes) w.messages
  pub replies : All (ReplyInStep w.nodes) w.replies
  pub routed : All (RoutedOnce config) w.nodes
  pub to_peers : All (λ (h : History). EachToPeer h.opening.peers (batches_of config h.opening h.acts)) w.nodes
