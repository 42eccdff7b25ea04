use Rattle.std.proofs.Common.{◌≡◌, ◌++◌, ℕ, List, drop, map}
use Rattle.std.specs.List.{filter, flat_map}
use Rattle.sds_types.specs.declared.transform.Point.TheVariants.{Load}
use Rattle.sds_trade.specs.rules.Transforms.{is_meant, shaped_by, transforms_for}
use Rattle.sds_transform.proofs.transforms.rows_shaped.Given as goal

abbrev pub invariant-loop-transform : goal.invariant-loop-transform
invariant-loop-transform l = l.rows
    ++ flat_map (shaped_by l.config.tables l.way l.row) (filter (is_meant l.config l.way Load l.row.table) (drop l.transform-index l.transform-items))
    ≡ flat_map (shaped_by l.config.tables l.way l.row) (transforms_for l.config l.way Load l.row.table)
