use Rattle.std.proofs.Common.{◌≡◌, ◌<◌, ℕ, false}
use Rattle.std.specs.List.{list_any}
use Rattle.sds_trade.specs.rules.Steps.{without_row}
use Rattle.sds_trade.specs.rules.Tables.{refers_to}
use Rattle.sds_rows.specs.Searches.{rows_of_table}
use Rattle.sds_rows.proofs.references.others_refer.Given as goal

-- no row of a table before refers to the key
abbrev pub invariant-loop-child : goal.invariant-loop-child
invariant-loop-child l = (before : ℕ) → before < l.child
    → list_any (refers_to l.defs l.table (record { 0 = l.key })) (without_row l.defs (rows_of_table before l.rows) l.table (record { 0 = l.key })) ≡ false
