use Rattle.std.proofs.Common.{◌≡◌, refl, length, rules}
use Rattle.sds_first_node.proofs.Runs.{routed-batches}
use Rattle.sds_first_node.proofs.kept.Kept.add_batches.Goals as goal

pub returns-clause-ok : goal.returns-clause-ok
returns-clause-ok c = λ is.
    let n : c.len-count.result ≡ length c.args.pieces.items = search rules in
    routed-batches c.args.self.now _ c.self.inside.other _ _ _ (rw (← c.self.view_is) refl) is n (rw (← c.self.view_is) c.in_ok-batches.ensures) c.in_ok-put_batches.ensures.ok
