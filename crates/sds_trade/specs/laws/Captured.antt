-- Laws of captured changes and their numbers.
use Rattle.std.specs.Prelude.{◌≡◌, ℕ, List, ◌∷◌, ◌++◌, map, length, Option, None, is_some}
use Rattle.std.specs.List.{range_with_len}
use Rattle.sds_types.specs.declared.config.Config.{Config}
use Rattle.sds_types.specs.declared.row.Change.{Change}
use Rattle.sds_trade.specs.rules.Captured.{Done, captured_channel, changes_of}

-- a step that isn't captured uses no number: without it the changes are the same
abbrev pub UncapturedUsesNoNumber : Type 0
UncapturedUsesNoNumber = (config : Config) (group : List ℕ) (first tx : ℕ)
    (source : Option (List ℕ)) (earlier later : List Done) (done : Done)
    → captured_channel config group (is_some source) done.step ≡ None
    → changes_of config group first tx source (earlier ++ done ∷ later)
    ≡ changes_of config group first tx source (earlier ++ later)

-- the numbers of a transaction's changes are consecutive
abbrev pub NumbersAreConsecutive : Type 0
NumbersAreConsecutive = (config : Config) (group : List ℕ) (first tx : ℕ)
    (source : Option (List ℕ)) (dones : List Done)
    → map (λ (change : Change). change.id) (changes_of config group first tx source dones)
    ≡ range_with_len first (length (changes_of config group first tx source dones))
