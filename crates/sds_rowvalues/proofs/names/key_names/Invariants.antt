use Rattle.std.proofs.Common.{◌≡◌, ◌++◌, drop, map}
use Rattle.sds_trade.specs.rules.Places.{column_name}
use Rattle.sds_rowvalues.proofs.names.key_names.Given as goal

abbrev pub invariant-loop-at : goal.invariant-loop-at
invariant-loop-at l = l.names.items ++ map (column_name l.columns) (drop l.at-index l.at-items) ≡ map (column_name l.columns) l.at-items
