use Rattle.std.proofs.Common.{◌≡◌, ◌++◌, drop}
use Rattle.std.specs.List.{flat_map}
use Rattle.sds_line.specs.Written.{Extends}
use Rattle.sds_screen.specs.Listed.{out_line}
use Rattle.sds_shown.proofs.batches.put_outgoing.Given as goal

abbrev pub invariant-loop-batch : goal.invariant-loop-batch
invariant-loop-batch l = record {
  so_far : l.out.items ++ flat_map (out_line l.config) (drop l.batch-index l.batches) ≡ l.fn.out.items ++ flat_map (out_line l.config) l.batches;
  front : Extends l.fn.out.items l.out.items;
}
