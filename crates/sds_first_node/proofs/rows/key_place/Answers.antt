use Rattle.std.proofs.Common.{sym, ◌∙◌}
use Rattle.sds_first_node.proofs.Loads.{row_found}
use Rattle.sds_first_node.proofs.rows.key_place.Goals as goal

pub returns-then-is_row : goal.returns-then-is_row
returns-then-is_row c = row_found _ _ _ _ c.loop-place-test.true c.index-rows-place.is (sym c.is_row.ensures ∙ c.if-is_row.true) c.loop-place.invariant.put
