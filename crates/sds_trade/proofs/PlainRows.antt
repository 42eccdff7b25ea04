-- Rows that no transform is for are written and loaded as they are.
use Rattle.std.proofs.Common.{map, ap}
use Rattle.sds_types.specs.declared.transform.Shaped.{Shaped}
use Rattle.sds_trade.specs.laws.Transforms.{PlainChangesAreExtracted, PlainRowsAreShaped}
use Rattle.sds_trade.specs.rules.Sides.{doc_of_change}
use Rattle.sds_trade.specs.rules.Transforms.{by_transforms}

pub plain_rows_are_shaped : PlainRowsAreShaped
plain_rows_are_shaped config way doc none = ap (by_transforms config.tables way doc) none

pub plain_changes_are_extracted : PlainChangesAreExtracted
plain_changes_are_extracted config way change none =
    ap (λ transforms. map (λ (shaped : Shaped). shaped.row)
    (by_transforms config.tables way (doc_of_change config.tables change) transforms)) none
