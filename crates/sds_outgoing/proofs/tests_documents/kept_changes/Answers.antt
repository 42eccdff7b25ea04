use Rattle.std.proofs.Common.{subst, sym, List}
use Rattle.std.proofs.lemmas.List.Elements.{All-nil}
use Rattle.std.specs.List.{All}
use Rattle.sds_types.specs.declared.row.Change.{Change}
use Rattle.sds_outgoing.specs.Batches.{HasFitRows}
use Rattle.sds_outgoing.proofs.tests_documents.kept_changes.Goals as goal

pub returns : goal.returns
returns c = λ defs. c.joined-3.ensures defs (c.in_ok-second.ensures defs (c.in_ok-first.ensures defs
    (subst (λ (changes : List Change). All (HasFitRows defs) changes) (sym c.new.ensures) (All-nil (HasFitRows defs)))))
