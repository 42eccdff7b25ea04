use Rattle.std.proofs.Common.{◌≡◌, drop}
use Rattle.std.specs.List.{list_any}
use Rattle.sds_trade.specs.rules.Steps.{without_row}
use Rattle.sds_trade.specs.rules.Tables.{refers_to}
use Rattle.sds_rows.proofs.references.some_refers.Given as goal

abbrev pub invariant-loop-row : goal.invariant-loop-row
invariant-loop-row l = list_any (refers_to l.defs l.table (record { 0 = l.key })) (without_row l.defs (drop l.row-index l.rows) l.table (record { 0 = l.key }))
    ≡ list_any (refers_to l.defs l.table (record { 0 = l.key })) (without_row l.defs l.rows l.table (record { 0 = l.key }))
