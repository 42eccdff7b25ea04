use Rattle.std.proofs.Common.{◌≡◌, ◌++◌, drop}
use Rattle.sds_line.specs.Written.{Extends}
use Rattle.sds_batchtext.specs.Writing.{later_lines, text_of_lines}
use Rattle.sds_batchtext.proofs.writing.put_later.Given as goal

abbrev pub invariant-loop-row : goal.invariant-loop-row
invariant-loop-row l = record {
  so_far : l.out.items ++ text_of_lines (later_lines l.before (drop l.row-index l.others)) ≡ l.fn.out.items ++ text_of_lines (later_lines l.fn.first l.others);
  front : Extends l.fn.out.items l.out.items;
}
