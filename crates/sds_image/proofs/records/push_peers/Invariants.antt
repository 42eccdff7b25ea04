use Rattle.std.proofs.Common.{◌≡◌, ◌++◌, drop, map}
use Rattle.sds_history.specs.history.Records.{peer_record}
use Rattle.sds_image.specs.Pairs.{pairs}
use Rattle.sds_image.proofs.records.push_peers.Given as goal

abbrev pub invariant-loop-kept : goal.invariant-loop-kept
invariant-loop-kept l = l.all.items ++ pairs (map peer_record (drop l.kept-index l.peers))
    ≡ l.initial.all.items ++ pairs (map peer_record l.peers)
