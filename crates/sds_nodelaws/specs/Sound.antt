-- Each state that a node comes to is sound.
use Rattle.std.specs.Prelude.{◌≡◌, IsTrue, List, [], ◌∷◌, Some}
use Rattle.sds_value.specs.declared.row.Peer.{Peer}
use Rattle.sds_types.specs.declared.config.Config.{Config}
use Rattle.sds_trade.specs.rules.Sound.{IsSound}
use Rattle.sds_history.specs.history.Acts.{Act, State}
use Rattle.sds_history.specs.history.SoundParts.{is_peer}
use Rattle.sds_history.specs.history.SoundStates.{IsSoundState}
use Rattle.sds_history.specs.history.States.{state_after, state_of}
use Rattle.sds_nodelaws.specs.Asked.{IsAsked}
use Rattle.sds_nodelaws.specs.Calls.{Call, act_of, begun, called_all}

-- the act that a call makes leaves a sound state sound
abbrev pub CallsKeepStatesSound : Type 0
CallsKeepStatesSound = (config : Config) → IsSound config → (state : State)
    → IsSoundState config state → (call : Call) → IsAsked config state call
    → (act : Act) → act_of config state call ≡ Some act
    → IsSoundState config (state_after config state act)

-- each of some calls, the newest first, is asked rightly of what the node had before it
abbrev pub AreAsked : Config → Peer → List Call → Type 0
AreAsked config me [] = Unit {0}
AreAsked config me (call ∷ older) =
    IsAsked config (state_of config (called_all config (begun me) older)) call
    × AreAsked config me older

-- so that what a node has is sound from its beginning on
abbrev pub NodesStaySound : Type 0
NodesStaySound = (config : Config) → IsSound config → (me : Peer)
    → IsTrue (is_peer config me) → (calls : List Call) → AreAsked config me calls
    → IsSoundState config (state_of config (called_all config (begun me) calls))
