use Rattle.std.proofs.Common.{◌≡◌, ◌++◌, drop}
use Rattle.sds_line.specs.Written.{further_fields, Extends}
use Rattle.sds_line.proofs.writing.put_further.Given as goal

abbrev pub invariant-loop-field : goal.invariant-loop-field
invariant-loop-field l = record {
  so_far : l.out.items ++ further_fields (drop l.field-index l.fields) ≡ l.fn.out.items ++ further_fields l.fields;
  front : Extends l.fn.out.items l.out.items;
}
