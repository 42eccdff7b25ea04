-- Scenarios of the examples, line by line, and how they begin: a head office and a store at which
-- nothing was written yet.
use Rattle.std.specs.Prelude.{◌≡◌, ℕ, List, [], ◌∷◌, ◌++◌, codes, None}
use Rattle.sds_batchtext.specs.Writing.{text_of_lines}
use Rattle.sds_types.specs.declared.config.Config.{Config}
use Rattle.sds_screen.specs.Screen.{scenario_screen, scenario_refusal}

-- each of the lines may stand, and this is what they print
pub record Prints (config : Config) (lines screen : List (List ℕ)) : Type 0 where
  pub prints : scenario_screen config [] (text_of_lines lines) ≡ text_of_lines screen
  pub stands : scenario_refusal config [] (text_of_lines lines) ≡ None

-- corp, and the store s1 that registered there
abbrev pub joined : List (List ℕ)
joined =
    codes "node,corp,corp,corp"
    ∷ codes "node,s1,store,001"
    ∷ codes "open,corp,store,001"
    ∷ codes "register,s1,corp"
    ∷ []

abbrev pub joined_screen : List (List ℕ)
joined_screen =
    codes "open corp store 001: ok"
    ∷ codes "register s1 corp: ok"
    ∷ []

-- an item that corp writes comes down to the store
abbrev pub stocked : List (List ℕ)
stocked = joined
    ++ codes "write,corp,office,1"
    ∷ codes "insert,item,1,Pen,2.50"
    ∷ codes "end"
    ∷ codes "route,corp"
    ∷ codes "pull,s1,corp"
    ∷ []

abbrev pub stocked_screen : List (List ℕ)
stocked_screen = joined_screen
    ++ codes "write corp office 1: done 1 1"
    ∷ codes "route corp: 1 batches"
    ∷ codes "send 1 corp s1: 1 batches"
    ∷ codes "deliver 1: reply 1 batch-1=ok"
    ∷ codes "answer 1: 1 changed"
    ∷ []
