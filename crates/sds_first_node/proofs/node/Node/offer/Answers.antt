use Rattle.std.proofs.Common.{refl, sym, ◌∙◌}
use Rattle.sds_first_node.proofs.Offers.{offer-answered}
use Rattle.sds_first_node.proofs.node.Node.offer.Goals as goal

pub returns-clause-answer : goal.returns-clause-answer
returns-clause-answer c = λ _. sym (offer-answered c.args.self.now.kept _ _ _ c.requires (sym c.is_peer.ensures ∙ c.if-not-is_peer.false) (c.in_ok-offered.ensures ∙ rw (← c.self.view_is) (rw c.deref.ensures.value refl)))
