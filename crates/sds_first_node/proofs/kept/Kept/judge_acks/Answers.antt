use Rattle.std.proofs.Common.{◌∙◌}
use Rattle.sds_first_node.proofs.Known.{counted}
use Rattle.sds_first_node.proofs.kept.Kept.judge_acks.Goals as goal

pub returns-clause-changed : goal.returns-clause-changed
returns-clause-changed c =
    let items = c.in_ok-standings.ensures.items in
    rw (← c.self.view_is) (counted c.args.acks.now _ _ _ _ c.deref-2.ensures.value (c.deref-3.ensures.value ∙ (rw c.deref.ensures.value at items)) c.count_changed-changed.ensures)
