use Rattle.std.proofs.Common.{◌≡◌, drop}
use Rattle.sds_first_world.specs.Playing.{peer_called}
use Rattle.sds_first_world.proofs.nodes.peer_in.Given as goal

abbrev pub invariant-loop-peer : goal.invariant-loop-peer
invariant-loop-peer l = peer_called l.id (drop l.peer-index l.peers) ≡ peer_called l.id l.peers
