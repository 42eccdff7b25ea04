use Rattle.std.proofs.Common.{◌≡◌, ◌≤◌, ◌+◌, drop}
use Rattle.sds_line.specs.Splitting.{and_then, split, reach}
use Rattle.sds_line.proofs.splitter.Splitter.feed.Given as goal

abbrev pub invariant-loop-byte : goal.invariant-loop-byte
invariant-loop-byte l = record {
  so_far : and_then l.self (λ u. split u (drop l.byte-index l.piece)) ≡ and_then l.fn.self (λ u. split u l.piece);
  grows : reach l.self ≤ reach l.fn.self + l.byte-index;
}
