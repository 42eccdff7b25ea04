-- Each change that was routed stands in one batch to each peer that it was for.
use Rattle.std.specs.Prelude.{Bool, List}
use Rattle.sds_value.specs.declared.row.Peer.{Peer}
use Rattle.sds_types.specs.declared.config.Config.{Config}
use Rattle.sds_trade.specs.rules.Sound.{IsSound}
use Rattle.sds_history.specs.history.Acts.{Act}
use Rattle.sds_history.specs.history.States.{new_state}
use Rattle.sds_history.specs.world.InStep.{RoutedOnce}
use Rattle.sds_history.specs.world.Worlds.{Node}

-- a node that began, after acts
abbrev pub node_after : Peer → List Act → List Bool → Node
node_after me acts faults =
    record { history = record { opening = new_state me; acts = acts }; faults = faults }

-- under a sound configuration, whatever it did: of each change that a routing run took, the batches
-- that hold it go to the peers that the routers named at that run, to each by one batch, and to no
-- other
abbrev pub RoutedInOneBatch : Type 0
RoutedInOneBatch = (config : Config) → IsSound config → (me : Peer) (acts : List Act)
    (faults : List Bool) → RoutedOnce config (node_after me acts faults)
