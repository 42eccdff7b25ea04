use Rattle.std.proofs.Common.{◌≡◌, ◌++◌, drop}
use Rattle.std.specs.List.{flat_map}
use Rattle.sds_line.specs.Written.{Extends}
use Rattle.sds_image.specs.Meaning.{meaning_of}
use Rattle.sds_screen.specs.Listed.{in_line, lanes_of_peer}
use Rattle.sds_shown.proofs.batches.put_lanes.Given as goal

abbrev pub invariant-loop-kept : goal.invariant-loop-kept
invariant-loop-kept l = record {
  so_far : l.out.items ++ flat_map (in_line l.config) (flat_map (lanes_of_peer l.config (meaning_of l.state)) (drop l.kept-index l.kept-items))
      ≡ l.fn.out.items ++ flat_map (in_line l.config) (flat_map (lanes_of_peer l.config (meaning_of l.state)) l.kept-items);
  front : Extends l.fn.out.items l.out.items;
}
