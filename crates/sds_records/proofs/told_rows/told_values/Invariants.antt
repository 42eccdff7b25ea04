use Rattle.std.proofs.Common.{◌≡◌, take}
use Rattle.sds_types.specs.declared.row.Row.{Row}
use Rattle.sds_trade.specs.rules.Fitting.{FitColumns}
use Rattle.sds_history.specs.history.RowRecords.{row_fields}
use Rattle.sds_records.proofs.told_rows.told_values.Given as goal

-- the values so far fit the columns so far, and are the first of a row that the fields tell
abbrev pub invariant-loop-place : goal.invariant-loop-place
invariant-loop-place l = FitColumns (take l.place l.columns) l.values
    × ((row : Row) → FitColumns l.columns row.0 → l.fields ≡ row_fields l.columns row.0 → l.values ≡ take l.place row.0)
