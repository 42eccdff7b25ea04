-- A message that is delivered three times: the store's stock is added up at the head office once.
use Rattle.std.specs.Prelude.{ℕ, List, [], ◌∷◌, ◌++◌, codes}
use Rattle.sds_screen.specs.generator.Shop.{shop}
use Rattle.sds_examples.specs.Lines.{Prints, stocked, stocked_screen}

abbrev pub repeated : List (List ℕ)
repeated = stocked
    ++ codes "write,s1,till,1"
    ∷ codes "insert,stock,1,5"
    ∷ codes "end"
    ∷ codes "route,s1"
    ∷ codes "push,s1,corp"
    ∷ codes "write,s1,till,2"
    ∷ codes "update,stock,1,qty,3"
    ∷ codes "end"
    ∷ codes "route,s1"
    ∷ codes "send,s1,corp"
    ∷ codes "deliver,3"
    ∷ codes "deliver,3"
    ∷ codes "deliver,3"
    ∷ codes "answer,5"
    ∷ codes "show,corp"
    ∷ []

-- 5 and then 2 less: the difference is what travels
abbrev pub repeated_screen : List (List ℕ)
repeated_screen = stocked_screen
    ++ codes "write s1 till 1: done 1 1"
    ∷ codes "route s1: 1 batches"
    ∷ codes "send 2 s1 corp: 1 batches"
    ∷ codes "deliver 2: reply 2 batch-1=ok"
    ∷ codes "answer 2: 1 changed"
    ∷ codes "write s1 till 2: done 2 1"
    ∷ codes "route s1: 1 batches"
    ∷ codes "send 3 s1 corp: 1 batches"
    ∷ codes "deliver 3: reply 3 batch-2=ok"
    ∷ codes "deliver 3: reply 4 batch-2=ok"
    ∷ codes "deliver 3: reply 5 batch-2=ok"
    ∷ codes "answer 5: 1 changed"
    ∷ codes "table item"
    ∷ codes "\"1\",\"Pen\",\"2.50\""
    ∷ codes "table stock"
    ∷ codes "\"1\",\"3\""
    ∷ codes "table sale"
    ∷ []

abbrev pub RepeatsLoadOnce : Type 0
RepeatsLoadOnce = Prints shop repeated repeated_screen
