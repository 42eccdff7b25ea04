-- The batches of a node as a person sees them.
use Rattle.std.specs.Prelude.{ℕ, Bool, true, false, List, [], ◌∷◌, ◌++◌, length, codes, Option, None, Some}
use Rattle.std.specs.Fmt.{decimal}
use Rattle.std.specs.List.{filter_map, find, flat_map}
use Rattle.std.specs.Str.{encode_utf8_all}
use Rattle.sds_types.specs.Rules.{number_of}
use Rattle.sds_types.specs.Standings.{name_of}
use Rattle.sds_types.specs.declared.batch.OutBatch.{OutBatch}
use Rattle.sds_types.specs.declared.batch.Standing.{Standing}
use Rattle.sds_types.specs.declared.batch.Standing.TheVariants as standing
use Rattle.sds_types.specs.declared.channel.ChannelDef.{ChannelDef}
use Rattle.sds_types.specs.declared.config.Config.{Config}
use Rattle.sds_types.specs.declared.lane.LaneError.{LaneError}
use Rattle.sds_types.specs.declared.lane.LaneIn.{LaneIn}
use Rattle.sds_types.specs.declared.peer.KeptPeer.{KeptPeer}
use Rattle.sds_trade.specs.rules.Batches.{channels_in_order}
use Rattle.sds_history.specs.history.Acts.{State}
use Rattle.sds_history.specs.history.Lanes.{channel_name, is_lane}
use Rattle.sds_screen.specs.Words.{line_of_words}

-- a batch of the node: its number, peer, channel, count of changes and status, and for an error its
-- row and rule
abbrev pub error_of : Standing → List (List ℕ)
error_of (standing.Erred row rule) = decimal row ∷ (decimal rule ∷ [])
error_of other = []

abbrev pub out_line : Config → OutBatch → List ℕ
out_line config batch = line_of_words (codes "out" ∷ (decimal batch.id
    ∷ (encode_utf8_all batch.peer ∷ (encode_utf8_all (channel_name config batch.channel)
    ∷ (decimal (length batch.changes) ∷ (name_of batch.standing ∷ error_of batch.standing))))))

-- a lane that was loaded from: its peer, channel, highest batch and status, and the batch in error
-- with its row and rule
abbrev pub lane_status : Option Bool → List ℕ
lane_status None = codes "-"
lane_status (Some true) = codes "IG"
lane_status (Some false) = codes "OK"

abbrev pub held_words : Option LaneError → List (List ℕ)
held_words None = []
held_words (Some error) = codes "held" ∷ (decimal error.batch
    ∷ (decimal error.row ∷ (decimal (number_of error.rule) ∷ [])))

abbrev pub in_line : Config → LaneIn → List ℕ
in_line config lane = line_of_words (codes "in" ∷ (encode_utf8_all lane.peer
    ∷ (encode_utf8_all (channel_name config lane.channel) ∷ (decimal lane.highest
    ∷ (lane_status lane.ignored ∷ held_words lane.error)))))

-- the lanes by peer, and those of one peer in the order of channels
abbrev pub lanes_of_peer : Config → State → KeptPeer → List LaneIn
lanes_of_peer config state kept = filter_map
    (λ (at : ℕ × ChannelDef). find (is_lane kept.peer.id at.0) state.lanes)
    (channels_in_order config)

abbrev pub lanes_in_order : Config → State → List LaneIn
lanes_in_order config state = flat_map (lanes_of_peer config state) state.peers

-- the batch list: what goes out by number, then what came in
abbrev pub batches_text : Config → State → List ℕ
batches_text config state = flat_map (out_line config) state.batches
    ++ flat_map (in_line config) (lanes_in_order config state)
