use Rattle.std.proofs.Common.{◌≡◌, ◌≤◌, drop, length}
use Rattle.std.specs.List.{filter_map}
use Rattle.sds_trade.specs.rules.Tables.{Ascend}
use Rattle.sds_image.specs.Reading.{row_of_part, sorted_rows}
use Rattle.sds_image.proofs.seen.rows_in.Given as goal

abbrev pub invariant-loop-place : goal.invariant-loop-place
invariant-loop-place l = record {
  within : l.place ≤ length l.parts;
  sorted : l.found.items ≡ sorted_rows l.defs (filter_map row_of_part (drop l.place l.parts));
  order : Ascend l.defs l.found.items;
  few : length l.found.items ≤ length (filter_map row_of_part (drop l.place l.parts));
}

abbrev pub decreases-loop-place : goal.decreases-loop-place
decreases-loop-place l = l.place
