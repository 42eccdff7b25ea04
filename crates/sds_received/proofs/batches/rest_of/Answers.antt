use Rattle.std.proofs.Common.{◌++◌, true}
use Rattle.sds_received.proofs.Taking.{ended, goes_on}
use Rattle.sds_received.proofs.batches.rest_of.Goals as goal

pub returns-in-None : goal.returns-in-None
returns-in-None c = λ text taken has.
    ended text (taken ++ c.loop-turn.docs) c.in_ok-doc.field-0 c.take.new.self c.in-None.is
    (c.in_ok-doc.ensures.takes text (taken ++ c.loop-turn.docs) true (c.loop-turn.invariant text taken has))

pub loop-turn-preserved : goal.loop-turn-preserved
loop-turn-preserved c = λ text taken has.
    goes_on text taken c.loop-turn.docs c.push.new.self c.in_ok-doc.field-0 c.in-Some.doc c.take.new.self c.in-Some.is c.in_ok-push-in-Some.ensures.ok
    (c.in_ok-doc.ensures.takes text (taken ++ c.loop-turn.docs) true (c.loop-turn.invariant text taken has))
