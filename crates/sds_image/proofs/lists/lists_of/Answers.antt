use Rattle.std.proofs.Common.{subst}
use Rattle.sds_image.specs.PartsSeen.{Lead}
use Rattle.sds_image.proofs.lists.lists_of.Goals as goal

pub loop-part-preserved : goal.loop-part-preserved
loop-part-preserved c = c.in_ok-add.ensures c.pop_front.new.self.items c.args.parts.items
    (subst (λ xs. Lead c.loop-part.lists xs c.args.parts.items) c.in-Some.ensures.items c.loop-part.invariant)
