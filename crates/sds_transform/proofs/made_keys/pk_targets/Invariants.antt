use Rattle.std.proofs.Common.{◌≡◌, ◌++◌, ℕ, List, drop, map}
use Rattle.std.specs.List.{filter}
use Rattle.sds_trade.specs.rules.ColumnFunctions.{takes_part}
use Rattle.sds_trade.specs.rules.MadeSides.{pk_targets}
use Rattle.sds_transform.proofs.made_keys.pk_targets.Given as goal

abbrev pub invariant-loop-column : goal.invariant-loop-column
invariant-loop-column l = l.keys.items ++ pk_targets (filter (takes_part l.event) (drop l.column-index l.columns)) ≡ pk_targets (filter (takes_part l.event) l.columns)
