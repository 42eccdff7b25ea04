use Rattle.std.proofs.Common.{◌≡◌, ◌++◌, drop, map}
use Rattle.sds_types.specs.declared.peer.KeptPeer.{KeptPeer}
use Rattle.sds_acts.proofs.batches.peers_of.Given as goal

abbrev pub invariant-loop-one : goal.invariant-loop-one
invariant-loop-one l =
    l.peers.items ++ map (λ (kept : KeptPeer). kept.peer) (drop l.one-index l.kept) ≡ map (λ (kept : KeptPeer). kept.peer) l.kept
