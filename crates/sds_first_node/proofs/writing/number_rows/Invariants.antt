use Rattle.std.proofs.Common.{◌≡◌, ◌+◌, ◌++◌, drop, vec_len}
use Rattle.sds_first_node.specs.NewRows.{numbered}
use Rattle.sds_first_node.proofs.writing.number_rows.Given as goal

abbrev pub invariant-loop-row : goal.invariant-loop-row
invariant-loop-row l = record {
  so_far : l.changes.items ++ numbered l.id l.tx (drop l.row-index l.rows) ≡ numbered l.first l.tx l.rows;
  len : vec_len l.changes ≡ l.row-index;
  next : l.id ≡ l.first + l.row-index;
}
