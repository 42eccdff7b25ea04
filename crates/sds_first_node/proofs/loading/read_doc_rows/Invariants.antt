use Rattle.std.proofs.Common.{◌≡◌, map, take}
use Rattle.sds_first_node.specs.Loaded.{doc_row}
use Rattle.sds_first_node.proofs.loading.read_doc_rows.Given as goal

abbrev pub invariant-loop-doc : goal.invariant-loop-doc
invariant-loop-doc l = l.rows.items ≡ map doc_row (take l.doc-index l.docs)
