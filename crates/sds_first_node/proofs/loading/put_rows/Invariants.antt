use Rattle.std.proofs.Common.{◌≡◌, ◌≤◌, ◌+◌, vec_len, vec_capacity}
use Rattle.std.specs.VecDeque.{deque_len}
use Rattle.sds_first_node.specs.Loaded.{with_rows}
use Rattle.sds_first_node.proofs.loading.put_rows.Given as goal

abbrev pub invariant-loop-row : goal.invariant-loop-row
invariant-loop-row l = record {
  room : vec_len l.tables + deque_len l.rows ≤ vec_capacity l.tables;
  rest : with_rows l.tables.items l.rows.items ≡ with_rows l.initial.tables.items l.initial.rows.items;
}

abbrev pub decreases-loop-row : goal.decreases-loop-row
decreases-loop-row l = deque_len l.rows
