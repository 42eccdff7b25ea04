use Rattle.std.proofs.Common.{◌≡◌, drop}
use Rattle.sds_line.specs.Reading.{rest_of_line, line_of}
use Rattle.sds_line.proofs.reading.read_line.Given as goal

abbrev pub invariant-loop-byte : goal.invariant-loop-byte
invariant-loop-byte l = rest_of_line l.draft (drop l.byte-index l.bytes) ≡ line_of l.bytes
