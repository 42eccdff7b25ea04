use Rattle.std.proofs.Common.{◌≡◌, drop}
use Rattle.std.specs.List.{list_all}
use Rattle.sds_received.specs.Rows.{has_few_rows}
use Rattle.sds_received.proofs.batches.have_few_rows.Given as goal

abbrev pub invariant-loop-doc : goal.invariant-loop-doc
invariant-loop-doc l = list_all has_few_rows (drop l.doc-index l.docs) ≡ list_all has_few_rows l.docs
