use Rattle.std.specs.Prelude.{◌≡◌, ◌≤◌, ◌<◌, ◌+◌, drop}
use Rattle.sds_config.specs.Positions.{line_from, column_from}
use Rattle.sds_config.proofs.position.position_after.Given as goal

abbrev pub invariant-loop-byte : goal.invariant-loop-byte
invariant-loop-byte l = record {
  lines : line_from l.line (drop l.byte-index l.before) ≡ line_from 1 l.before;
  columns : column_from l.column (drop l.byte-index l.before) ≡ column_from 1 l.before;
  few_lines : l.line ≤ l.byte-index + 1;
  some_column : 0 < l.column;
  few_columns : l.column ≤ l.byte-index + 1;
}
