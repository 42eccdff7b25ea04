-- Of the batches of a lane the first are acknowledged.
use Rattle.std.specs.Prelude.{◌≡◌, ℕ, List, ◌++◌}
use Rattle.std.specs.List.{filter}
use Rattle.sds_value.specs.declared.row.Peer.{Peer}
use Rattle.sds_types.specs.declared.batch.OutBatch.{OutBatch}
use Rattle.sds_types.specs.declared.config.Config.{Config}
use Rattle.sds_history.specs.history.Acts.{State}
use Rattle.sds_history.specs.history.Messages.{lane_made, lane_waiting}
use Rattle.sds_history.specs.history.Standings.{is_acked}
use Rattle.sds_history.specs.history.States.{state_of}
use Rattle.sds_nodelaws.specs.Calls.{Call, begun, called_all}

-- a lane's batches are those that are acknowledged, and then those that wait
abbrev pub AckedFirst : State → List ℕ → ℕ → Type 0
AckedFirst state to channel = lane_made state to channel
    ≡ filter (λ (batch : OutBatch). is_acked batch.standing) (lane_made state to channel)
    ++ lane_waiting state to channel

-- so that a message begins with the first batch that isn't acknowledged
abbrev pub AckedComeFirst : Type 0
AckedComeFirst = (config : Config) (me : Peer) (calls : List Call) (to : List ℕ) (channel : ℕ)
    → AckedFirst (state_of config (called_all config (begun me) calls)) to channel
