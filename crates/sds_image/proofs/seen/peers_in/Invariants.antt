use Rattle.std.proofs.Common.{◌≡◌, ◌++◌, drop, map}
use Rattle.std.specs.List.{filter_map}
use Rattle.sds_image.specs.Reading.{peer_of_part}
use Rattle.sds_image.proofs.seen.peers_in.Given as goal

abbrev pub invariant-loop-part : goal.invariant-loop-part
invariant-loop-part l = map (λ kept. kept.now) l.found.items ++ filter_map peer_of_part (drop l.part-index l.parts) ≡ filter_map peer_of_part l.parts
