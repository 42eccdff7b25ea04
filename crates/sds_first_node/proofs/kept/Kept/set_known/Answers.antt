use Rattle.std.proofs.Common.{◌≡◌, refl}
use Rattle.sds_first_spec.specs.Acks.{acknowledged}
use Rattle.sds_first_node.proofs.Known.{known}
use Rattle.sds_first_node.proofs.kept.Kept.set_known.Goals as goal

pub returns : goal.returns
returns c = λ acks are.
    let these = rw (← c.self.view_is) at are in
    let now : c.set_standings.new.batches.items ≡ acknowledged acks c.self.inside.batches.items = known acks _ _ _ _ refl these c.set_standings.ensures in
    rw (← c.self.view_is) (rw now refl)
