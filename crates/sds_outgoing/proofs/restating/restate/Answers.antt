use Rattle.std.proofs.Common.{◌∙◌, List, arith}
use Rattle.sds_outgoing.specs.Restating.{with_restated}
use Rattle.sds_outgoing.specs.declared.restating.Restated.{Restated}
use Rattle.sds_outgoing.proofs.Places.{all_restated}
use Rattle.sds_outgoing.proofs.Turns.{at_end}
use Rattle.sds_outgoing.proofs.restating.restate.Goals as goal

pub returns : goal.returns
returns c = λ from acks is.
    at_end (λ (rs : List Restated). with_restated rs c.loop-restated.batches.items) c.args.changed.now c.loop-restated.restated-index
    (with_restated c.args.changed.now c.args.batches.now.items) (omega arith) c.loop-restated.invariant
    ∙ all_restated c.args.batches.now.items from acks c.args.changed.now is
