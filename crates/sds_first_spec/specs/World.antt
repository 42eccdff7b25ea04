-- Several nodes, the messages sent between them and the replies made, and what an event makes of them.
-- A message that is never delivered is lost, and one may be delivered again and again, in any order.
use Rattle.std.specs.Prelude.{ℕ, ◌+◌, Bool, ◌==◌, nat_le, if◌then◌else◌, List, [], ◌∷◌, ◌++◌, map, drop, take, Option, None, Some}
use Rattle.std.specs.Str.{bytes_eq}
use Rattle.sds_types.specs.declared.config.Config.{Config}
use Rattle.sds_types.specs.declared.ack.Ack.{Ack}
use Rattle.sds_types.specs.declared.batch.OutBatch.{OutBatch}
use Rattle.sds_first_spec.specs.declared.batch.Sent.{Sent}
use Rattle.sds_first_spec.specs.Acts.{Act, State, History}
use Rattle.sds_first_spec.specs.Acts.Act.{Loaded}
use Rattle.sds_first_spec.specs.Lanes.{made, acked, loaded, to_error, most_to_send, channels_of, rows_of}
use Rattle.sds_first_spec.specs.Outcome.{read_rows}

-- what a message holds of a channel's lane: the batches behind the first so many
pub record Part : Type 0 where
  pub channel : ℕ
  pub start : ℕ
  pub batches : List Sent

pub record Message : Type 0 where
  pub sender : List ℕ
  pub receiver : List ℕ
  pub parts : List Part

pub record Reply : Type 0 where
  pub receiver : List ℕ
  pub sender : List ℕ
  pub acks : List Ack

-- the nodes, the oldest first; the messages sent and the replies made, the newest first, each numbered from 1 in the order in which they were made
pub record World : Type 0 where
  pub nodes : List History
  pub messages : List Message
  pub replies : List Reply

abbrev pub empty_world : World
empty_world = record { nodes = []; messages = []; replies = [] }

abbrev pub is_node : List ℕ → History → Bool
is_node id h = bytes_eq h.opening.me.id id

-- the history of the node of a name
abbrev pub history_of : List ℕ → List History → Option History
history_of id [] = None
history_of id (h ∷ nodes) = if is_node id h then Some h else history_of id nodes

-- further acts at the node of a name, the newest first
abbrev pub with_acts : List ℕ → List Act → List History → List History
with_acts id acts [] = []
with_acts id acts (h ∷ nodes) = if is_node id h then record h { acts = acts ++ h.acts } ∷ nodes else h ∷ with_acts id acts nodes

abbrev pub sent_of : Config → State → OutBatch → Sent
sent_of config s batch = record { id = batch.id; rows = rows_of config s batch }

-- a lane's batches from the first that isn't known to be loaded, as many as a message takes, none behind one in error
-- The limit on the bytes of a part comes later.
abbrev pub part_of : Config → State → List ℕ → ℕ → Part
part_of config s to channel = record {
  channel = channel;
  start = acked s to channel;
  batches = map (sent_of config s) (take (most_to_send config channel) (to_error (drop (acked s to channel) (made s to channel))));
}

abbrev pub message_of : Config → State → List ℕ → List ℕ → Message
message_of config s to channels = record { sender = s.me.id; receiver = to; parts = map (part_of config s to) (channels_of config channels) }

-- the batch at a place of its lane, from 1, is loaded exactly where it is the next one
abbrev pub after_batch : Config → List ℕ → ℕ → ℕ → Sent → List Act → List Act
after_batch config sender channel place batch acts =
    if place == loaded sender channel acts + 1 then Loaded sender channel batch.id (read_rows config 1 batch.rows) ∷ acts else acts

-- it is answered where it is loaded now or was before
abbrev pub ack_at : List ℕ → ℕ → ℕ → Sent → List Act → List Ack
ack_at sender channel place batch acts = if nat_le place (loaded sender channel acts + 1) then record { batch = batch.id; error = None } ∷ [] else []

-- the receiver's acts after the batches from a place on
abbrev pub received : Config → List ℕ → ℕ → ℕ → List Sent → List Act → List Act
received config sender channel place [] acts = acts
received config sender channel place (batch ∷ batches) acts =
    received config sender channel (place + 1) batches (after_batch config sender channel place batch acts)

abbrev pub acks_for : Config → List ℕ → ℕ → ℕ → List Sent → List Act → List Ack
acks_for config sender channel place [] acts = []
acks_for config sender channel place (batch ∷ batches) acts =
    ack_at sender channel place batch acts ++ acks_for config sender channel (place + 1) batches (after_batch config sender channel place batch acts)

-- the receiver's acts after all parts of a message, and the reply's acks
abbrev pub received_parts : Config → List ℕ → List Part → List Act → List Act
received_parts config sender [] acts = acts
received_parts config sender (part ∷ parts) acts = received_parts config sender parts (received config sender part.channel (part.start + 1) part.batches acts)

abbrev pub acks_for_parts : Config → List ℕ → List Part → List Act → List Ack
acks_for_parts config sender [] acts = []
acks_for_parts config sender (part ∷ parts) acts =
    acks_for config sender part.channel (part.start + 1) part.batches acts
    ++ acks_for_parts config sender parts (received config sender part.channel (part.start + 1) part.batches acts)
