-- The nodes of a world are in step, whatever is lost, repeated or meets a fault.
use Rattle.std.specs.Prelude.{ℕ, ◌≡◌, ◌≤◌, ◌+◌, Bool, true, false, ◌&&◌, ◌==◌, nat_le, nat_lt, IsTrue, List, length, map, take, Option, None, Some, is_some, slice_get}
use Rattle.std.specs.List.{All, list_any, range_with_len}
use Rattle.std.specs.Option.{option_map_or}
use Rattle.std.specs.Str.{bytes_eq}
use Rattle.sds_types.specs.declared.ack.Ack.{Ack}
use Rattle.sds_types.specs.declared.batch.OutBatch.{OutBatch}
use Rattle.sds_types.specs.declared.config.Config.{Config}
use Rattle.sds_types.specs.declared.counts.WriterLast.{WriterLast}
use Rattle.sds_types.specs.declared.lane.LaneError.{LaneError}
use Rattle.sds_types.specs.declared.message.Message.{Message}
use Rattle.sds_types.specs.declared.message.MessagePart.{MessagePart}
use Rattle.sds_types.specs.declared.message.Reply.{Reply}
use Rattle.sds_history.specs.history.Acts.{Act}
use Rattle.sds_history.specs.history.Acts.Act.{Loaded}
use Rattle.sds_history.specs.history.Changes.{runs_after}
use Rattle.sds_history.specs.history.Lanes.{lane_of}
use Rattle.sds_history.specs.world.LaneParts.{Lane, all_lanes, acked_in, as_read, loaded_in, made_in, numbers_of}
use Rattle.sds_history.specs.world.RoutedOnce.{all_routed, holders_of}
use Rattle.sds_history.specs.world.Worlds.{Node, World, me_of, node_at, state_in}

-- WRITES. Each writer's writes at a node have the numbers 1, 2, 3 and so on
abbrev pub NumbersCount : Node → List ℕ → Type 0
NumbersCount node writer = numbers_of writer node.history.acts
    ≡ range_with_len 1 (length (numbers_of writer node.history.acts))

abbrev pub WritesCount : Config → Node → Type 0
WritesCount config node =
    All (λ (last : WriterLast). NumbersCount node last.writer) (state_in config node).writers

-- LOADS. The batches loaded are the first of those made, in order, each as the receiver reads it
abbrev pub LoadsInOrder : Config → Lane → Type 0
LoadsInOrder config lane = loaded_in lane
    ≡ map (as_read config lane) (take (length (loaded_in lane)) (made_in config lane))

-- COUNTS. No more are acknowledged than are loaded, and no more loaded than were made
abbrev pub CountsAgree : Config → Lane → Type 0
CountsAgree config lane = (acked_in config lane ≤ length (loaded_in lane))
    × (length (loaded_in lane) ≤ length (made_in config lane))

-- SENDERS. Whatever is loaded came from a node of the world in a channel of the configuration
abbrev pub is_from_lane : Config → World → Act → Bool
is_from_lane config world (Loaded channel batch) =
    is_some (node_at world batch.from) && nat_lt channel (length config.channels)
is_from_lane config world act = true

-- MESSAGES. A part lies in what was made, and begins at most one after what is loaded
abbrev pub is_in_step : Config → Lane → MessagePart → Bool
is_in_step config lane part =
    nat_le (part.start + part.count) (length (made_in config lane))
    && nat_le part.start (length (loaded_in lane))

abbrev pub is_part_in : Config → Option Node → Option Node → MessagePart → Bool
is_part_in config (Some from) (Some to) part =
    is_in_step config (record { from = from; to = to; channel = part.channel }) part
is_part_in config from to part = false

abbrev pub MessageInStep : Config → World → Message → Type 0
MessageInStep config world message = All (λ (part : MessagePart). IsTrue
    (is_part_in config (node_at world message.from) (node_at world message.to) part))
    message.parts

-- REPLIES. What is told as loaded is loaded, and what is told as an error was made
abbrev pub is_loaded : List ℕ → Node → ℕ → Act → Bool
is_loaded from node number (Loaded channel batch) =
    batch.batch == number && bytes_eq batch.from from
is_loaded from node number act = false

abbrev pub is_batch_to : List ℕ → ℕ → OutBatch → Bool
is_batch_to to number batch = batch.id == number && bytes_eq batch.peer to

abbrev pub is_ack_in : Config → List ℕ → List ℕ → Node → Node → Ack → Bool
is_ack_in config from to sender node ack = elim ack.error [
  | None ↦ list_any (is_loaded to node ack.batch) node.history.acts
  | Some error ↦ list_any (is_batch_to from ack.batch) (state_in config sender).batches
]

abbrev pub is_ack_between : Config → Reply → Option Node → Option Node → Ack → Bool
is_ack_between config reply (Some sender) (Some node) ack =
    is_ack_in config reply.from reply.to sender node ack
is_ack_between config reply sender other ack = false

abbrev pub ReplyInStep : Config → World → Reply → Type 0
ReplyInStep config world reply = All (λ (ack : Ack). IsTrue
    (is_ack_between config reply (node_at world reply.to) (node_at world reply.from) ack))
    reply.acks

-- ERRORS. A lane's error is that of the next batch
abbrev pub is_next_error : Config → Lane → LaneError → Bool
is_next_error config lane error =
    option_map_or (λ (batch : OutBatch). batch.id == error.batch)
    (slice_get (made_in config lane) (length (loaded_in lane))) false

abbrev pub ErrorIsNext : Config → Lane → Type 0
ErrorIsNext config lane = IsTrue (option_map_or (is_next_error config lane)
    (lane_of (state_in config lane.to).lanes (me_of lane.from).id lane.channel).error
    true)

-- ROUTES. Each change up to the last routing run stands in one batch to each peer that it was for
-- at its run, and in no other batch
abbrev pub RoutedOnce : Config → Node → Type 0
RoutedOnce config node = All (λ (at : ℕ × List (List ℕ)).
    holders_of (state_in config node).batches at.0 ≡ at.1)
    (all_routed config node.history.opening
    (runs_after config node.history.opening node.history.acts))

pub record NodeInStep (config : Config) (world : World) (node : Node) : Type 0 where
  pub writes : WritesCount config node
  pub senders : All (λ (act : Act). IsTrue (is_from_lane config world act)) node.history.acts
  pub routes : RoutedOnce config node

pub record LaneInStep (config : Config) (lane : Lane) : Type 0 where
  pub loads : LoadsInOrder config lane
  pub counts : CountsAgree config lane
  pub error : ErrorIsNext config lane

pub record InStep (config : Config) (world : World) : Type 0 where
  pub nodes : All (NodeInStep config world) world.nodes
  pub lanes : All (LaneInStep config) (all_lanes config world)
  pub messages : All (MessageInStep config world) world.messages
  pub replies : All (ReplyInStep config world) world.replies
