use Rattle.std.proofs.Common.{◌≡◌, drop}
use Rattle.sds_value.specs.Binaries.{are_bytes}
use Rattle.sds_world.proofs.rehearsing.bytes_are_bytes.Given as goal

abbrev pub invariant-loop-byte : goal.invariant-loop-byte
invariant-loop-byte l = are_bytes (drop l.byte-index l.bytes) ≡ are_bytes l.bytes
