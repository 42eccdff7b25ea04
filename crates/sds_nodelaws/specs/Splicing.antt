-- What a node has follows from what it had and its acts since, wherever its history is cut in two.
use Rattle.std.specs.Prelude.{◌≡◌, List, [], ◌++◌, Option, None, Some}
use Rattle.sds_value.specs.declared.row.Peer.{Peer}
use Rattle.sds_types.specs.declared.config.Config.{Config}
use Rattle.sds_history.specs.history.Acts.{Act, History, State}
use Rattle.sds_history.specs.history.States.{state_after, state_of}
use Rattle.sds_nodelaws.specs.Calls.{Call, act_of, begun, called, called_all}

-- a node that is opened again with what it has
abbrev pub reopened : State → History
reopened state = record { opening = state; acts = [] }

-- the state after the act of a call, if it makes one
abbrev pub after_made : Config → State → Option Act → State
after_made config state None = state
after_made config state (Some act) = state_after config state act

-- after a call a node has what the call's act makes of the state before it
abbrev pub CallsStepOn : Type 0
CallsStepOn = (config : Config) (me : Peer) (older : List Call) (call : Call)
    → state_of config (called config (called_all config (begun me) older) call)
    ≡ after_made config (state_of config (called_all config (begun me) older))
    (act_of config (state_of config (called_all config (begun me) older)) call)

-- a node that is opened again with what it has goes on as if it had never been closed
abbrev pub HistoriesSplice : Type 0
HistoriesSplice = (config : Config) (me : Peer) (older newer : List Call)
    → state_of config (called_all config (reopened (state_of config
    (called_all config (begun me) older))) newer)
    ≡ state_of config (called_all config (begun me) (newer ++ older))
