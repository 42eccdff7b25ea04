use Rattle.std.proofs.Common.{List, [], ◌∷◌}
use Rattle.std.proofs.lemmas.List.Elements.{All-append, All-cons, All-nil}
use Rattle.sds_outgoing.specs.Batches.{HasFitRows}
use Rattle.sds_outgoing.proofs.tests_documents.joined.Goals as goal

pub returns : goal.returns
returns c = λ defs before. rw c.in_ok-push.ensures.ok
    (All-append (HasFitRows defs) c.args.changes (c.change.result ∷ []) before (All-cons (HasFitRows defs) c.change.result [] (c.change.ensures defs) (All-nil (HasFitRows defs))))
