use Rattle.sds_history.specs.history.Peers.{peer_key}
use Rattle.sds_history.specs.history.SoundParts.{AscendBy}
use Rattle.sds_registry.proofs.tests.put_peers.Given as goal

abbrev pub invariant-loop-id : goal.invariant-loop-id
invariant-loop-id l = AscendBy peer_key l.peers.items
