use Rattle.std.proofs.Common.{refl, sym, ◌∙◌}
use Rattle.sds_first_node.proofs.Runs.{next-cut}
use Rattle.sds_first_node.proofs.kept.Kept.cut.Goals as goal

pub returns : goal.returns
returns c =
    let cut = next-cut c.args.self.now c.self.inside.other (rw (← c.self.view_is) refl) in
    let here = rw (← c.self.view_is) at cut in
    rw (← c.self.view_is) (c.in_ok-pieces.ensures ∙ rw c.deref.ensures.value (sym here))
