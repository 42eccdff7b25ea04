-- What a node has loaded in each lane, ascending by peer and channel with a slash between.
use Rattle.std.specs.Prelude.{ℕ, Bool, true, false, ◌==◌, ◌&&◌, List, [], ◌∷◌, Option, None, Some, unwrap_or, slice_get}
use Rattle.std.specs.List.{find}
use Rattle.std.specs.Option.{option_map_or}
use Rattle.std.specs.Str.{bytes_eq}
use Rattle.sds_types.specs.declared.channel.ChannelDef.{ChannelDef}
use Rattle.sds_types.specs.declared.config.Config.{Config}
use Rattle.sds_types.specs.declared.lane.LaneIn.{LaneIn}
use Rattle.sds_trade.specs.rules.Runs.{RunEnd}
use Rattle.sds_trade.specs.rules.Runs.RunEnd.{Ignored}
use Rattle.sds_history.specs.history.Acts.{Act, State}
use Rattle.sds_history.specs.history.Acts.Act.{Loaded, Erred}
use Rattle.sds_history.specs.history.Orders.{with_item, pair_key}
use Rattle.sds_history.specs.history.Runs.{Run}

-- the name of the channel at a place
abbrev pub channel_name : Config → ℕ → List ℕ
channel_name config channel =
    option_map_or (λ (def : ChannelDef). def.id) (slice_get config.channels channel) []

abbrev pub lane_key : Config → LaneIn → List ℕ
lane_key config lane = pair_key lane.peer (channel_name config lane.channel)

-- a lane of which nothing is kept
abbrev pub empty_lane : List ℕ → ℕ → LaneIn
empty_lane peer channel = record {
  peer = peer;
  channel = channel;
  highest = 0;
  ignored = None;
  error = None;
}

abbrev pub is_lane : List ℕ → ℕ → LaneIn → Bool
is_lane peer channel lane = lane.channel == channel && bytes_eq lane.peer peer

-- what is kept of a peer's lane in a channel
abbrev pub lane_of : List LaneIn → List ℕ → ℕ → LaneIn
lane_of lanes peer channel =
    unwrap_or (find (is_lane peer channel) lanes) (empty_lane peer channel)

-- a load ended so that the batch is skipped
abbrev pub is_ignored : Option RunEnd → Bool
is_ignored (Some Ignored) = true
is_ignored end = false

-- a load makes its batch the highest and takes an error away; an error leaves the highest
abbrev pub lanes_by : Config → Act → Option RunEnd → List LaneIn → List LaneIn
lanes_by config (Loaded channel batch) end lanes = with_item (lane_key config) (record {
  peer = batch.from;
  channel = channel;
  highest = batch.batch;
  ignored = Some (is_ignored end);
  error = None;
}) lanes
lanes_by config (Erred from channel error) end lanes = with_item (lane_key config)
    (record (lane_of lanes from channel) { error = Some error }) lanes
lanes_by config act end lanes = lanes

abbrev pub lanes_after : Config → State → List Run → List LaneIn
lanes_after config opening [] = opening.lanes
lanes_after config opening (run ∷ older) =
    lanes_by config run.act run.end (lanes_after config opening older)
