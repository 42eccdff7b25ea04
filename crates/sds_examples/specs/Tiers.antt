-- Three tiers: what a store wrote goes up and to the other store, and doesn't come back to it but
-- where ping back is enabled.
use Rattle.std.specs.Prelude.{ℕ, true, false, List, [], ◌∷◌, ◌++◌, codes}
use Rattle.sds_trade.specs.worked.Tiers.{tiers_with}
use Rattle.sds_examples.specs.Lines.{Prints}

abbrev pub tiered : List (List ℕ)
tiered =
    codes "node,corp,corp,corp"
    ∷ codes "node,r1,region,r1"
    ∷ codes "node,s1,store,001"
    ∷ codes "node,s2,store,002"
    ∷ codes "open,corp,region,r1"
    ∷ codes "register,r1,corp"
    ∷ codes "open,r1,store,001"
    ∷ codes "open,r1,store,002"
    ∷ codes "register,s1,r1"
    ∷ codes "register,s2,r1"
    ∷ codes "write,s1,till,1"
    ∷ codes "insert,stock,1,5"
    ∷ codes "end"
    ∷ codes "route,s1"
    ∷ codes "push,s1,r1"
    ∷ codes "route,r1"
    ∷ codes "batches,r1"
    ∷ []

abbrev pub tiered_screen : List ℕ → List (List ℕ) → List (List ℕ)
tiered_screen routed batches =
    codes "open corp region r1: ok"
    ∷ codes "register r1 corp: ok"
    ∷ codes "open r1 store 001: ok"
    ∷ codes "open r1 store 002: ok"
    ∷ codes "register s1 r1: ok"
    ∷ codes "register s2 r1: ok"
    ∷ codes "write s1 till 1: done 1 1"
    ∷ codes "route s1: 1 batches"
    ∷ codes "send 1 s1 r1: 1 batches"
    ∷ codes "deliver 1: reply 1 batch-1=ok"
    ∷ codes "answer 1: 1 changed"
    ∷ routed
    ∷ (batches ++ codes "in s1 data 1 OK" ∷ [])

abbrev pub NothingComesBack : Type 0
NothingComesBack = Prints (tiers_with false) tiered (tiered_screen (codes "route r1: 2 batches")
    (codes "out 1 corp data 1 NE" ∷ codes "out 2 s2 data 1 NE" ∷ []))

abbrev pub PingBackComesBack : Type 0
PingBackComesBack = Prints (tiers_with true) tiered (tiered_screen (codes "route r1: 3 batches")
    (codes "out 1 corp data 1 NE" ∷ codes "out 2 s1 data 1 NE" ∷ codes "out 3 s2 data 1 NE" ∷ []))
