use Rattle.std.proofs.Common.{◌∙◌, arith}
use Rattle.sds_batcher.specs.Ends.{cuts_to_come}
use Rattle.sds_batcher.proofs.Pieces.{cuts_are, none_open, one_open}
use Rattle.sds_batcher.proofs.cutting.cut.Goals as goal

pub returns-then-count-eq0 : goal.returns-then-count-eq0
returns-then-count-eq0 c = λ changes are. c.of.ensures
    ∙ (none_open c.args.algorithm c.args.max c.loop-place.first c.loop-place.count c.loop-place.place
    c.loop-place.cuts.items (cuts_to_come c.args.algorithm c.args.max 0 0 c.args.txs.now)
    c.args.txs.now (omega arith) c.if-count-eq0.true c.loop-place.invariant.1
    ∙ cuts_are c.args.algorithm c.args.max changes c.args.txs.now are)

pub returns : goal.returns
returns c = λ changes are. c.of-2.ensures ∙ (c.in_ok-push-2.ensures.items
    ∙ (one_open c.args.algorithm c.args.max c.loop-place.first c.loop-place.count c.loop-place.place
    c.loop-place.cuts.items (cuts_to_come c.args.algorithm c.args.max 0 0 c.args.txs.now)
    c.args.txs.now (omega arith) c.if-count-eq0.false c.loop-place.invariant.1
    ∙ cuts_are c.args.algorithm c.args.max changes c.args.txs.now are))
