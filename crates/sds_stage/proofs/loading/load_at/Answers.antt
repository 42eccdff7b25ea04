use Rattle.std.specs.Str.{chars}
use Rattle.sds_stage.proofs.Loaded.{load_goes}
use Rattle.sds_stage.proofs.loading.load_at.Goals as goal

pub returns-clause-goes : goal.returns-clause-goes
returns-clause-goes c =
    load_goes (chars c.args.from.now) c.args.doc.now c.in_ok-batch.batch c.args.node.now c.settle_at.new.node c.load.new.self c.load.result c.unless_loading_lacks.result
    c.in_ok-settle_at.ensures.stands c.in_ok-settle_at.ensures.sure c.in_ok-batch.ensures.read c.in_ok-batch.ensures.asked c.in_ok-batch.ensures.held
    c.load.ensures.node c.load.ensures.still c.load.ensures.goes c.unless_loading_lacks.ensures
