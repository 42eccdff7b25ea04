-- What an act has that a call made which was asked rightly.
use Rattle.std.proofs.Common.{◌≡◌, ℕ, ◌+◌, ◌<◌, ◌≤◌, true, List, length}
use Rattle.std.specs.List.{list_all}
use Rattle.sds_value.specs.Names.{is_name_text}
use Rattle.sds_types.specs.Limits.{most_count, most_peers}
use Rattle.sds_types.specs.declared.config.Config.{Config}
use Rattle.sds_types.specs.declared.prepared.Prepared.{Prepared}
use Rattle.sds_types.specs.declared.registration.Stage.TheVariants.{Waiting}
use Rattle.sds_history.specs.history.Acts.{Act, State}
use Rattle.sds_history.specs.history.Acts.Act.{Opened, Joined, Confirmed, Wrote, Routed, Loaded, Erred, Acked}
use Rattle.sds_history.specs.history.Lanes.{lane_of}
use Rattle.sds_history.specs.history.SoundParts.{is_kept_peer, is_opening}
use Rattle.sds_nodelaws.specs.Asked.{IsReadFrom, are_spelt, is_ack}
use Rattle.sds_nodelaws.proofs.NodeFacts.{IsKept, JoinsNew}

-- a peer that is kept is new, fits the configuration, and has room
pub record JoinsWell (config : Config) (state : State) (act : Act) : Type 0 where
  pub joins : JoinsNew state act
  pub few : length state.peers + 1 ≤ most_peers

-- a batch that is loaded was read, and comes from a kept peer in a channel that is there
pub record LoadsWell (config : Config) (state : State) (channel : ℕ) (batch : Prepared) : Type 0 where
  pub from : List ℕ
  pub read : IsReadFrom config from batch
  pub kept : IsKept state.peers batch.from
  pub there : channel < length config.channels
  pub most : batch.batch ≤ most_count

abbrev pub Due : Config → State → Act → Type 0
Due config state (Opened group external token) =
    is_opening config (record { group = group; external = external; token = token; stage = Waiting }) ≡ true
Due config state (Joined kept) = (is_kept_peer config kept ≡ true) × JoinsWell config state (Joined kept)
Due config state (Confirmed peer) = Unit {0}
Due config state (Wrote writer number rows) =
    (is_name_text writer ≡ true) × (number ≤ state.counts.acts + 1) × (are_spelt rows ≡ true)
Due config state Routed = Unit {0}
Due config state (Loaded channel batch) = LoadsWell config state channel batch
Due config state (Erred from channel error) =
    IsKept state.peers from × (channel < length config.channels) × ((lane_of state.lanes from channel).highest < error.batch) × (error.batch ≤ most_count)
Due config state (Acked from acks) = list_all is_ack acks ≡ true

pub joins : (config : Config) (state : State) (act : Act) → Due config state act → JoinsNew state act
joins config state (Joined kept) due = due.1.joins
joins config state (Opened group external token) due = tt
joins config state (Confirmed peer) due = tt
joins config state (Wrote writer number rows) due = tt
joins config state Routed due = tt
joins config state (Loaded channel batch) due = tt
joins config state (Erred from channel error) due = tt
joins config state (Acked from acks) due = tt
