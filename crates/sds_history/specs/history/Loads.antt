-- What a node answers to a batch that a peer sent, and the act that it makes.
use Rattle.std.specs.Prelude.{ℕ, ◌+◌, Bool, false, ◌&&◌, ◌==◌, nat_lt, nat_le, if◌then◌else◌, List, Option, None, Some, Result, Ok, Err}
use Rattle.std.specs.Option.{option_map_or}
use Rattle.std.specs.Str.{bytes_eq}
use Rattle.sds_types.specs.Rules.{number_of}
use Rattle.sds_types.specs.declared.config.Config.{Config}
use Rattle.sds_types.specs.declared.lane.LaneError.{LaneError}
use Rattle.sds_types.specs.declared.lane.LaneIn.{LaneIn}
use Rattle.sds_types.specs.declared.load_answer.LoadAnswer.{LoadAnswer}
use Rattle.sds_types.specs.declared.load_answer.LoadAnswer.TheVariants as answer
use Rattle.sds_types.specs.declared.load_answer.PeerRefusal.{PeerRefusal}
use Rattle.sds_types.specs.declared.load_answer.PeerRefusal.TheVariants.{UnknownNode, Fault}
use Rattle.sds_types.specs.declared.peer.KeptPeer.{KeptPeer}
use Rattle.sds_types.specs.declared.prepared.Prepared.{Prepared}
use Rattle.sds_types.specs.declared.rule.Rule.TheVariants.{UnknownChannel}
use Rattle.sds_trade.specs.rules.Outcomes.{outcome_of_batch}
use Rattle.sds_trade.specs.rules.Runs.{RunEnd}
use Rattle.sds_trade.specs.rules.Runs.RunEnd.{Made, Ignored, Refused}
use Rattle.sds_history.specs.history.Acts.{Act, State}
use Rattle.sds_history.specs.history.Acts.Act.{Loaded, Erred}
use Rattle.sds_history.specs.history.Counters.{answer_within, within}
use Rattle.sds_history.specs.history.Lanes.{lane_of}
use Rattle.sds_history.specs.history.Peers.{kept_peer}
use Rattle.sds_history.specs.history.Writes.{waiting_in}

-- a peer of the batch's sender group is kept
abbrev pub knows_sender : State → List ℕ → Prepared → Bool
knows_sender state from batch = option_map_or
    (λ (kept : KeptPeer). bytes_eq kept.peer.group batch.from_group) (kept_peer state.peers from)
    false

-- the answer by how the rows end; a load's place is its act's number
abbrev pub ended_answer : State → RunEnd → LoadAnswer
ended_answer state (Made dones rows) = answer.Loaded (state.counts.acts + 1)
ended_answer state Ignored = answer.Ignored (state.counts.acts + 1)
ended_answer state (Refused row rule) = answer.Erred row rule

abbrev pub outcome_answer : Config → State → Prepared → LoadAnswer
outcome_answer config state batch = ended_answer state
    (outcome_of_batch config state.me.group (waiting_in state) state.tables batch)

-- the answer by an error that the lane has: it holds later batches
abbrev pub error_answer : Config → State → Prepared → Option LaneError → LoadAnswer
error_answer config state batch None = outcome_answer config state batch
error_answer config state batch (Some error) =
    if nat_lt error.batch batch.batch then answer.Held error.batch error.row error.rule
    else outcome_answer config state batch

abbrev pub lane_answer : Config → State → Prepared → LaneIn → LoadAnswer
lane_answer config state batch lane =
    if nat_le batch.batch lane.highest then answer.Again
    else error_answer config state batch lane.error

abbrev pub channel_answer : Config → State → List ℕ → Prepared → Option ℕ → LoadAnswer
channel_answer config state from batch None = answer.Erred 0 UnknownChannel
channel_answer config state from batch (Some channel) =
    lane_answer config state batch (lane_of state.lanes from channel)

-- the answer but for the counters
abbrev pub own_load_answer : Config → State → List ℕ → Prepared → Result LoadAnswer PeerRefusal
own_load_answer config state from batch =
    if knows_sender state from batch
    then Ok (channel_answer config state from batch batch.channel) else Err UnknownNode

-- two errors of a lane are one
abbrev pub same_error : LaneError → LaneError → Bool
same_error a b = a.batch == b.batch && (a.row == b.row && number_of a.rule == number_of b.rule)

abbrev pub keeps_error : LaneIn → LaneError → Bool
keeps_error lane error = option_map_or (same_error error) lane.error false

-- an error is kept where the lane doesn't have it yet
abbrev pub error_act : State → List ℕ → ℕ → LaneError → Option Act
error_act state from channel error =
    if keeps_error (lane_of state.lanes from channel) error then None
    else Some (Erred from channel error)

abbrev pub load_by : State → List ℕ → Prepared → ℕ → LoadAnswer → Option Act
load_by state from batch channel (answer.Loaded place) = Some (Loaded channel batch)
load_by state from batch channel (answer.Ignored place) = Some (Loaded channel batch)
load_by state from batch channel answer.Again = None
load_by state from batch channel (answer.Erred row rule) =
    error_act state from channel (record { batch = batch.batch; row = row; rule = rule })
load_by state from batch channel (answer.Held held row rule) = None

abbrev pub load_of : State → List ℕ → Prepared → Option ℕ → Result LoadAnswer PeerRefusal
    → Option Act
load_of state from batch (Some channel) (Ok told) = load_by state from batch channel told
load_of state from batch channel told = None

-- the act that a load is about to make
abbrev pub next_load : Config → State → List ℕ → Prepared → Option Act
next_load config state from batch =
    load_of state from batch batch.channel (own_load_answer config state from batch)

-- LOAD: no peer of the sender's group; an unknown channel, which is not kept; loaded already; held
-- by an earlier batch; a broken rule, which is kept; a counter; and else it is loaded or ignored
abbrev pub load_answer : Config → State → List ℕ → Prepared → Result LoadAnswer PeerRefusal
load_answer config state from batch = answer_within Fault config state
    (next_load config state from batch) (own_load_answer config state from batch)

abbrev pub load_act : Config → State → List ℕ → Prepared → Option Act
load_act config state from batch = within config state (next_load config state from batch)
