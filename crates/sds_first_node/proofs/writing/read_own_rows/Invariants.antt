use Rattle.std.proofs.Common.{◌≡◌, take}
use Rattle.sds_first_node.specs.NewRows.{new_rows}
use Rattle.sds_first_node.proofs.writing.read_own_rows.Given as goal

abbrev pub invariant-loop-row : goal.invariant-loop-row
invariant-loop-row l = l.rows.items ≡ new_rows (take l.row-index l.tx)
