use Rattle.std.proofs.Common.{◌≡◌, drop}
use Rattle.std.specs.List.{list_any}
use Rattle.sds_rows.specs.Searches.{is_reference_to}
use Rattle.sds_rows.proofs.references.has_parent.Given as goal

abbrev pub invariant-loop-column : goal.invariant-loop-column
invariant-loop-column l = list_any (is_reference_to l.table) (drop l.column-index l.columns) ≡ list_any (is_reference_to l.table) l.columns
