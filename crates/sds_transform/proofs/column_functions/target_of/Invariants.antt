use Rattle.std.proofs.Common.{◌≡◌, ◌++◌, ℕ, List, drop, map}
use Rattle.std.specs.Str.{chars}
use Rattle.sds_trade.specs.rules.ColumnFunctions.{target_of}
use Rattle.sds_transform.proofs.column_functions.target_of.Given as goal

abbrev pub invariant-loop-pair : goal.invariant-loop-pair
invariant-loop-pair l = target_of (drop l.pair-index l.pairs) (chars l.source) ≡ target_of l.pairs (chars l.source)
