use Rattle.std.proofs.Common.{◌≡◌, ◌++◌, drop, map}
use Rattle.std.specs.Borrow.{Bor}
use Rattle.sds_types.specs.declared.row.Row.{Row}
use Rattle.sds_router.specs.Standing.{rows_of}
use Rattle.sds_router.proofs.standing.ListTableRowStandingRows.of_table.Given as goal

-- the rows so far and those of the rows that are left are the table's
abbrev pub invariant-loop-row : goal.invariant-loop-row
invariant-loop-row l =
    map (λ (row : Bor Row). row.now) l.found.items ++ rows_of l.table (drop l.row-index l.self)
    ≡ rows_of l.table l.self
