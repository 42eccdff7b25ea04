use Rattle.std.proofs.Common.{◌≡◌, ◌++◌, ℕ, List, drop, map}
use Rattle.std.specs.List.{filter}
use Rattle.sds_types.specs.declared.transform.Point.TheVariants.{Extract}
use Rattle.sds_trade.specs.rules.Transforms.{is_meant, transforms_for}
use Rattle.sds_transform.specs.Made.{rows_by}
use Rattle.sds_transform.proofs.transforms.rows_made.Given as goal

abbrev pub invariant-loop-transform : goal.invariant-loop-transform
invariant-loop-transform l = l.rows
    ++ rows_by l.way l.row (filter (is_meant l.config l.way Extract l.row.table) (drop l.transform-index l.transform-items))
    ≡ rows_by l.way l.row (transforms_for l.config l.way Extract l.row.table)
