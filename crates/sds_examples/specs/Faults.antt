-- Commits that fail at the store: after one that stands nevertheless the batch is known, after one
-- that doesn't it is loaded by the next delivery.
use Rattle.std.specs.Prelude.{ℕ, List, [], ◌∷◌, ◌++◌, codes}
use Rattle.sds_screen.specs.generator.Shop.{shop}
use Rattle.sds_examples.specs.Lines.{Prints, stocked, stocked_screen}

abbrev pub failing : List (List ℕ)
failing = stocked
    ++ codes "write,corp,office,2"
    ∷ codes "insert,item,2,Ink,4.00"
    ∷ codes "end"
    ∷ codes "route,corp"
    ∷ codes "send,corp,s1"
    ∷ codes "fault,s1,after"
    ∷ codes "deliver,2"
    ∷ codes "batches,s1"
    ∷ codes "deliver,2"
    ∷ codes "answer,2"
    ∷ codes "write,corp,office,3"
    ∷ codes "delete,item,2"
    ∷ codes "end"
    ∷ codes "route,corp"
    ∷ codes "send,corp,s1"
    ∷ codes "fault,s1,before"
    ∷ codes "deliver,3"
    ∷ codes "batches,s1"
    ∷ codes "crash,s1"
    ∷ codes "deliver,3"
    ∷ codes "show,s1"
    ∷ []

abbrev pub failing_screen : List (List ℕ)
failing_screen = stocked_screen
    ++ codes "write corp office 2: done 2 1"
    ∷ codes "route corp: 1 batches"
    ∷ codes "send 2 corp s1: 1 batches"
    ∷ codes "deliver 2: fault"
    ∷ codes "in corp item 2 OK"
    ∷ codes "deliver 2: reply 2 batch-2=ok"
    ∷ codes "answer 2: 1 changed"
    ∷ codes "write corp office 3: done 3 1"
    ∷ codes "route corp: 1 batches"
    ∷ codes "send 3 corp s1: 1 batches"
    ∷ codes "deliver 3: fault"
    ∷ codes "in corp item 2 OK"
    ∷ codes "crash s1: ok"
    ∷ codes "deliver 3: reply 3 batch-3=ok"
    ∷ codes "table item"
    ∷ codes "\"1\",\"Pen\",\"2.50\""
    ∷ codes "table stock"
    ∷ codes "table sale"
    ∷ []

abbrev pub FaultsLoseNothing : Type 0
FaultsLoseNothing = Prints shop failing failing_screen
