use Rattle.std.proofs.Common.{◌≡◌, ◌++◌, drop}
use Rattle.sds_line.specs.Written.{escaped, Extends}
use Rattle.sds_line.proofs.writing.put_escaped.Given as goal

abbrev pub invariant-loop-byte : goal.invariant-loop-byte
invariant-loop-byte l = record {
  so_far : l.out.items ++ escaped (drop l.byte-index l.bytes) ≡ l.fn.out.items ++ escaped l.bytes;
  front : Extends l.fn.out.items l.out.items;
}
