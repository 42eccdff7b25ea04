use Rattle.std.proofs.Common.{◌≡◌, ◌++◌, drop, map}
use Rattle.std.specs.List.{zip}
use Rattle.sds_trade.specs.rules.RowValues.{given_or}
use Rattle.sds_rowvalues.proofs.row_values.new_key.Given as goal

abbrev pub invariant-loop-at : goal.invariant-loop-at
invariant-loop-at l = l.key.items ++ map (given_or l.row) (zip (drop l.at l.places) (drop l.at l.old)) ≡ map (given_or l.row) (zip l.places l.old)
