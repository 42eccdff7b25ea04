use Rattle.std.proofs.Common.{◌≡◌, drop}
use Rattle.std.specs.List.{zip}
use Rattle.sds_trade.specs.rules.LoadRows.{value_for}
use Rattle.sds_rowvalues.proofs.row_values.value_for.Given as goal

abbrev pub invariant-loop-at : goal.invariant-loop-at
invariant-loop-at l = value_for (zip (drop l.at l.places) (drop l.at l.values)) l.place ≡ value_for (zip l.places l.values) l.place
