use Rattle.std.proofs.Common.{◌≡◌, ◌++◌, drop}
use Rattle.sds_first_node.specs.Documents.{docs_of}
use Rattle.sds_first_node.proofs.offering.make_docs.Given as goal

abbrev pub invariant-loop-id : goal.invariant-loop-id
invariant-loop-id l = l.docs.items ++ docs_of l.changes (drop l.id-index l.ids) ≡ docs_of l.changes l.ids
