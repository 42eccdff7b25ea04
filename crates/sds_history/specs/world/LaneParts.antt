-- The batches of a lane at its sender and at its receiver, one beside the other.
use Rattle.std.specs.Prelude.{ℕ, ◌&&◌, ◌==◌, if◌then◌else◌, List, [], ◌∷◌, ◌++◌, map}
use Rattle.std.specs.List.{enumerate_from, flat_map}
use Rattle.std.specs.Str.{bytes_eq}
use Rattle.sds_types.specs.declared.batch.OutBatch.{OutBatch}
use Rattle.sds_types.specs.declared.channel.ChannelDef.{ChannelDef}
use Rattle.sds_types.specs.declared.config.Config.{Config}
use Rattle.sds_types.specs.declared.prepared.Prepared.{Prepared}
use Rattle.sds_trade.specs.rules.Outcomes.{prepared_batch}
use Rattle.sds_history.specs.history.Acts.{Act}
use Rattle.sds_history.specs.history.Acts.Act.{Loaded, Wrote}
use Rattle.sds_history.specs.history.Documents.{doc_of_batch, way_from}
use Rattle.sds_history.specs.history.Messages.{acked_count, lane_made}
use Rattle.sds_history.specs.world.Worlds.{Node, World, me_of, state_in}

-- one sender, one receiver and one channel
pub record Lane : Type 0 where
  pub from : Node
  pub to : Node
  pub channel : ℕ

abbrev pub lanes_between : Config → Node → Node → List Lane
lanes_between config from to =
    map (λ (at : ℕ × ChannelDef). record { from = from; to = to; channel = at.0 })
    (enumerate_from 0 config.channels)

-- all lanes of a world
abbrev pub all_lanes : Config → World → List Lane
all_lanes config world = flat_map (λ (from : Node).
    flat_map (lanes_between config from) world.nodes) world.nodes

-- the batches that the sender made, and how many of them are acknowledged
abbrev pub made_in : Config → Lane → List OutBatch
made_in config lane = lane_made (state_in config lane.from) (me_of lane.to).id lane.channel

abbrev pub acked_in : Config → Lane → ℕ
acked_in config lane = acked_count (state_in config lane.from) (me_of lane.to).id lane.channel

-- the batches of a lane that acts loaded, the oldest first
abbrev pub load_in : List ℕ → ℕ → Act → List Prepared
load_in from channel (Loaded place batch) =
    if place == channel && bytes_eq batch.from from then batch ∷ [] else []
load_in from channel act = []

abbrev pub loads_of : List ℕ → ℕ → List Act → List Prepared
loads_of from channel [] = []
loads_of from channel (act ∷ older) = loads_of from channel older ++ load_in from channel act

abbrev pub loaded_in : Lane → List Prepared
loaded_in lane = loads_of (me_of lane.from).id lane.channel lane.to.history.acts

-- a batch of the sender as the receiver reads it
abbrev pub as_read : Config → Lane → OutBatch → Prepared
as_read config lane batch =
    prepared_batch config (way_from (state_in config lane.to) (me_of lane.from).id)
    (doc_of_batch config (state_in config lane.from) batch)

-- the numbers of a writer's writes, the oldest first
abbrev pub write_number : List ℕ → Act → List ℕ
write_number writer (Wrote name number rows) = if bytes_eq name writer then number ∷ [] else []
write_number writer act = []

abbrev pub numbers_of : List ℕ → List Act → List ℕ
numbers_of writer [] = []
numbers_of writer (act ∷ older) = numbers_of writer older ++ write_number writer act
