use Rattle.std.proofs.Common.{◌≡◌, ◌++◌, ℕ, List, drop, map}
use Rattle.std.specs.List.{list_any}
use Rattle.sds_trade.specs.rules.Transforms.{is_meant}
use Rattle.sds_transform.proofs.transforms.is_transformed.Given as goal

abbrev pub invariant-loop-transform : goal.invariant-loop-transform
invariant-loop-transform l = list_any (is_meant l.config l.way l.point l.table) (drop l.transform-index l.transform-items) ≡ list_any (is_meant l.config l.way l.point l.table) l.transform-items
