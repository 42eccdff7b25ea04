-- Two nodes under the one configuration that have begun as each other's peers: the one is written to, routes and pushes, and the other loads.
use Rattle.std.specs.Prelude.{◌≡◌, ℕ, Bool, true, false, ◌&&◌, List, [], ◌∷◌, length, map, All, Result, Ok}
use Rattle.std.specs.List.{list_all}
use Rattle.std.specs.Str.{bytes_eq, all_scalars}
use Rattle.sds_value.specs.declared.row.DocRow.{DocRow}
use Rattle.sds_value.specs.declared.row.Field.{Field}
use Rattle.sds_value.specs.declared.row.Field.TheVariants.{Null, Text}
use Rattle.sds_value.specs.declared.row.Peer.{Peer}
use Rattle.sds_first_spec.specs.declared.batch.Sent.{Sent}
use Rattle.sds_first_spec.specs.declared.event.WorldEvent.{WorldEvent}
use Rattle.sds_first_spec.specs.declared.event.WorldEvent.TheVariants.{Node, Open, Register, Write, Route, Push, Show}
use Rattle.sds_types.specs.declared.tx_row.TxRow.{TxRow}
use Rattle.sds_first_spec.specs.Acts.{Act, History}
use Rattle.sds_first_spec.specs.Calls.{is_peer, offer_answer}
use Rattle.sds_first_spec.specs.Capture.{is_own_insert}
use Rattle.sds_first_spec.specs.Happens.{batches_in, world_after}
use Rattle.sds_first_spec.specs.History.{state_of}
use Rattle.sds_first_spec.specs.InStep.{InStep}
use Rattle.sds_first_spec.specs.One.{one, paired}
use Rattle.sds_first_spec.specs.Outcome.{is_whole_insert}
use Rattle.sds_first_spec.specs.World.{Message, Reply, World, message_of, received_parts, acks_for_parts}
use Rattle.sds_first_laws.specs.Loads.{after_loads, loads_acks, sent_at}

-- the world of the two, after these acts of theirs
abbrev pub pair_world : Peer → Peer → List Act → List Act → List Message → List Reply → World
pair_world sender receiver mine acts messages replies = record {
  nodes = record { opening = paired sender receiver; acts = mine } ∷ (record { opening = paired receiver sender; acts = acts } ∷ []);
  messages = messages;
  replies = replies;
}

-- every number of a field's text is a character's
abbrev pub is_of_characters : Field → Bool
is_of_characters Null = true
is_of_characters (Text text) = all_scalars text

-- a row that an application may write: an insert of the one table, its texts made of characters
abbrev pub is_written_row : TxRow → Bool
is_written_row row = is_own_insert one row && list_all is_of_characters row.fields

-- what may happen to the two once they have met
abbrev pub MayHappen : Peer → Peer → WorldEvent → Type 0
MayHappen sender receiver (Node peer) = ⊥
MayHappen sender receiver (Open at group external) = ⊥
MayHappen sender receiver (Register asks at) = ⊥
MayHappen sender receiver (Write node writer number rows) = (node ≡ sender.id) × All (λ (row : TxRow). is_written_row row ≡ true) rows
MayHappen sender receiver (Route node) = node ≡ sender.id
MayHappen sender receiver (Push from to) = (from ≡ sender.id) × (to ≡ receiver.id)
MayHappen sender receiver (Show node) = Unit {0}

-- the world is one that such events have made of the two
pub record IsPairWorld (sender receiver : Peer) (w : World) : Type 0 where
  pub events : List WorldEvent
  pub may : All (MayHappen sender receiver) events
  pub is : w ≡ world_after one (pair_world sender receiver [] [] [] []) events

-- a push by the nodes' calls: the message that the world sends is the one that the sender offers, each of its rows may be loaded,
-- and the receiver's calls make the acts and the acks that the world's delivery makes
pub record GoesByCalls (sender receiver : Peer) (mine acts : List Act) : Type 0 where
  pub known : is_peer receiver.id (state_of one (record { opening = paired sender receiver; acts = mine })) ≡ true
  pub sents : List Sent
  pub are : (ids : List ℕ) → offer_answer one (state_of one (record { opening = paired sender receiver; acts = mine })) receiver.id [] ≡ Ok ids
      → map (sent_at one (state_of one (record { opening = paired sender receiver; acts = mine }))) ids ≡ sents
  pub count : batches_in (message_of one (state_of one (record { opening = paired sender receiver; acts = mine })) receiver.id []) ≡ length sents
  pub whole : All (λ (sent : Sent). All (λ (doc : DocRow). is_whole_insert one doc ≡ true) sent.rows) sents
  pub takes : after_loads one sender.id 0 sents (record { opening = paired receiver sender; acts = acts })
      ≡ record { opening = paired receiver sender; acts = received_parts one sender.id (message_of one (state_of one (record { opening = paired sender receiver; acts = mine })) receiver.id []).parts acts }
  pub says : loads_acks one sender.id 0 sents (record { opening = paired receiver sender; acts = acts })
      ≡ acks_for_parts one sender.id (message_of one (state_of one (record { opening = paired sender receiver; acts = mine })) receiver.id []).parts acts

-- what such a world is: the two nodes, in step, and a push between them goes by their calls
pub record PairFacts (sender receiver : Peer) (w : World) : Type 0 where
  pub mine : List Act
  pub acts : List Act
  pub messages : List Message
  pub replies : List Reply
  pub is : w ≡ pair_world sender receiver mine acts messages replies
  pub in_step : InStep one w
  pub goes : GoesByCalls sender receiver mine acts

-- every world that such events make of two nodes of different names
abbrev pub PairsStayInStep : Type 0
PairsStayInStep = (sender receiver : Peer) (events : List WorldEvent) → bytes_eq sender.id receiver.id ≡ false → All (MayHappen sender receiver) events
    → PairFacts sender receiver (world_after one (pair_world sender receiver [] [] [] []) events)
