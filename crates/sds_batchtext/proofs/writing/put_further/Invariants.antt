use Rattle.std.proofs.Common.{◌≡◌, ◌++◌, drop}
use Rattle.sds_line.specs.Written.{Extends}
use Rattle.sds_batchtext.specs.Writing.{further_names}
use Rattle.sds_batchtext.proofs.writing.put_further.Given as goal

abbrev pub invariant-loop-name : goal.invariant-loop-name
invariant-loop-name l = record {
  so_far : l.out.items ++ further_names (drop l.name-index l.names) ≡ l.fn.out.items ++ further_names l.names;
  front : Extends l.fn.out.items l.out.items;
}
