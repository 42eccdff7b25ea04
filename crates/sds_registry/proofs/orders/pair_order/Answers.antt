use Rattle.std.proofs.Common.{◌≡◌, refl}
use Rattle.std.proofs.lemmas.Iterator.Adapters.{YieldsList-from_bytes}
use Rattle.std.proofs.lemmas.Iterator.Consumers.{YieldsList-at, YieldsList-from_chain}
use Rattle.std.proofs.lemmas.Iterator.Search.{cmp_from_yields_List}
use Rattle.std.specs.Ordering.{nat_cmp}
use Rattle.sds_registry.proofs.orders.pair_order.Goals as goal

pub returns : goal.returns
returns c = cmp_from_yields_List (λ x y. y ≡ x) _ nat_cmp _ c.cmp.ensures.ran
    (YieldsList-from_chain
    (YieldsList-at c.chain-pair.ensures.first (YieldsList-from_bytes _ c.bytes.ensures.rest))
    (YieldsList-at c.chain-pair.ensures.second (YieldsList-from_chain
    (YieldsList-at c.chain.ensures.first (YieldsList-from_bytes _ c.bytes-2.ensures.rest))
    (YieldsList-at c.chain.ensures.second (YieldsList-from_bytes _ c.bytes-3.ensures.rest))
    c.chain.ensures.first_done c.chain.ensures.second_done))
    c.chain-pair.ensures.first_done c.chain-pair.ensures.second_done)
    (λ it e. YieldsList-at e (YieldsList-from_chain
    (YieldsList-at c.chain-other.ensures.first (YieldsList-from_bytes _ c.bytes-4.ensures.rest))
    (YieldsList-at c.chain-other.ensures.second (YieldsList-from_chain
    (YieldsList-at c.chain-2.ensures.first (YieldsList-from_bytes _ c.bytes-5.ensures.rest))
    (YieldsList-at c.chain-2.ensures.second (YieldsList-from_bytes _ c.bytes-6.ensures.rest))
    c.chain-2.ensures.first_done c.chain-2.ensures.second_done))
    c.chain-other.ensures.first_done c.chain-other.ensures.second_done))
    (λ x y. refl)
