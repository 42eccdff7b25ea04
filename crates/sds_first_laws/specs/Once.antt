-- A routing run puts each change into batches once for each peer that it goes to.
use Rattle.std.specs.Prelude.{List}
use Rattle.sds_value.specs.declared.row.Peer.{Peer}
use Rattle.sds_first_spec.specs.Acts.{Act}
use Rattle.sds_first_spec.specs.InStep.{RoutedOnce}
use Rattle.sds_first_spec.specs.One.{one, paired}

-- whatever acts a node with one peer has made under the one configuration
abbrev pub StaysRoutedOnce : Type 0
StaysRoutedOnce = (me other : Peer) (acts : List Act) → RoutedOnce one (record { opening = paired me other; acts = acts })
