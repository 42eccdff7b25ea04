use Rattle.std.proofs.Common.{◌≡◌, drop}
use Rattle.std.specs.List.{find}
use Rattle.sds_trade.specs.rules.Tables.{is_at}
use Rattle.sds_conflict.proofs.tests_rows.ListRowsKeyedRows.row.Given as goal

abbrev pub invariant-loop-row : goal.invariant-loop-row
invariant-loop-row l = find (is_at l.self.defs l.table l.key) (drop l.row-index l.row-items) ≡ find (is_at l.self.defs l.table l.key) l.row-items
