use Rattle.std.proofs.Common.{◌∙◌}
use Rattle.sds_registry.proofs.Searched.{put_ascends, put_between, put_over}
use Rattle.sds_registry.proofs.putting.put_item.Goals as goal

pub returns-in-Ok-clause-items : goal.returns-in-Ok-clause-items
returns-in-Ok-clause-items g c =
    put_over (g.K.KeyOrder.key c.args.order.now) c.args.new c.args.items.now.items c.deref.result.now c.deref.ensures.value c.in-Ok.at c.in-Ok.ensures

pub returns-in-Err-clause-items : goal.returns-in-Err-clause-items
returns-in-Err-clause-items g c =
    (rw c.unwrap.ensures at c.insert.ensures.items)
    ∙ put_between (g.K.KeyOrder.key c.args.order.now) c.args.new c.args.items.now.items c.deref.result.now c.deref.ensures.value c.in-Err.at c.in-Err.ensures

pub returns-in-Err-clause-order : goal.returns-in-Err-clause-order
returns-in-Err-clause-order g c =
    put_ascends (g.K.KeyOrder.key c.args.order.now) c.args.new c.args.items.now.items c.insert.new.self.items
    (returns-in-Err-clause-items g c) c.requires.order
