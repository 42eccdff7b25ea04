use Rattle.std.proofs.Common.{rules}
use Rattle.std.proofs.lemmas.Fn.{always_returns_same}
use Rattle.std.specs.Cmp.Lexicographic.{slice_cmp}
use Rattle.std.specs.Ordering.{nat_cmp}
use Rattle.sds_registry.proofs.Searched.{searched}
use Rattle.sds_registry.proofs.putting.place_of.Goals as goal

pub returns : goal.returns
returns g c =
    searched (g.K.KeyOrder.key c.args.order.now) (g.K.KeyOrder.key c.args.order.now c.args.new.now) c.args.items.now c.requires
    c.binary_search_by.result c.binary_search_by.ensures.bound
    (c.binary_search_by.ensures.position
    (λ item. slice_cmp nat_cmp (g.K.KeyOrder.key c.args.order.now item) (g.K.KeyOrder.key c.args.order.now c.args.new.now))
    (always_returns_same _ _ _ (λ a r f k. search rules)))
