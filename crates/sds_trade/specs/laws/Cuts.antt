-- Laws of cuts: the function gives a cut, and there is no other.
use Rattle.std.specs.Prelude.{◌≡◌, ℕ, ◌≤◌, List}
use Rattle.sds_types.specs.declared.channel.Algorithm.{Algorithm}
use Rattle.sds_types.specs.declared.row.Change.{Change}
use Rattle.sds_trade.specs.rules.Cuts.{changes_in, IsCut, cut}

-- its pieces join to the changes, and are the cut of them
abbrev pub CutIsACut : Type 0
CutIsACut = (algorithm : Algorithm) (max : ℕ) (changes : List Change) → 1 ≤ max
    → IsCut algorithm max (cut algorithm max changes)
    × (changes_in (cut algorithm max changes) ≡ changes)

-- two cuts that join to one list are the same
abbrev pub ChangesHaveOneCut : Type 0
ChangesHaveOneCut = (algorithm : Algorithm) (max : ℕ) (pieces others : List (List Change))
    → IsCut algorithm max pieces → IsCut algorithm max others
    → changes_in pieces ≡ changes_in others → pieces ≡ others
