-- Where a lane's changes are cut into batches, by the channel's algorithm. The changes of a
-- transaction stand side by side; what a change is doesn't matter, but only its transaction.
use Rattle.std.specs.Prelude.{◌≡◌, ◌+◌, ◌≢◌, ℕ, ◌<◌, ◌≤◌, ◌==◌, nat_le, if◌then◌else◌, List, [], ◌∷◌, ◌++◌, length}
use Rattle.sds_types.specs.declared.channel.Algorithm.{Algorithm}
use Rattle.sds_types.specs.declared.channel.Algorithm.TheVariants.{Default, Transactional, Nontransactional}
use Rattle.sds_types.specs.declared.cut.Cut.{Cut}
use Rattle.sds_types.specs.declared.row.Change.{Change}

-- THE CUT, by its pieces
-- the changes that pieces join to
abbrev pub changes_in : List (List Change) → List Change
changes_in [] = []
changes_in (piece ∷ pieces) = piece ++ changes_in pieces

-- the change that follows a piece, if one does, is of another transaction than the piece's last
abbrev pub EndsBefore : List Change → List Change → Type 0
EndsBefore piece [] = Unit {0}
EndsBefore piece (next ∷ later) =
    (prefix : List Change) (last : Change) → piece ≡ prefix ++ last ∷ [] → last.tx ≢ next.tx

-- no shorter prefix of a piece that ends with a transaction is full
abbrev pub IsFirstFull : ℕ → List Change → Type 0
IsFirstFull max piece = (prefix : List Change) (next : Change) (later : List Change)
    → piece ≡ prefix ++ next ∷ later → EndsBefore prefix (next ∷ later) → length prefix < max

-- all changes of a piece are of one transaction
abbrev pub IsOfOne : List Change → Type 0
IsOfOne piece = (prefix : List Change) (first second : Change) (later : List Change)
    → piece ≡ prefix ++ first ∷ (second ∷ later) → first.tx ≡ second.tx

-- a piece that is the last, by an algorithm whose batches are full at max changes
abbrev pub IsLastPiece : Algorithm → ℕ → List Change → Type 0
IsLastPiece Default max piece = IsFirstFull max piece
IsLastPiece Transactional max piece = IsOfOne piece
IsLastPiece Nontransactional max piece = length piece ≤ max

-- a piece that these changes follow
abbrev pub IsPieceBefore : Algorithm → ℕ → List Change → List Change → Type 0
IsPieceBefore Default max piece later =
    EndsBefore piece later × IsFirstFull max piece × (max ≤ length piece)
IsPieceBefore Transactional max piece later = EndsBefore piece later × IsOfOne piece
IsPieceBefore Nontransactional max piece later = length piece ≡ max

-- these pieces are the cut of the changes that they join to: none is empty, and each is a piece of
-- the algorithm's
abbrev pub IsCut : Algorithm → ℕ → List (List Change) → Type 0
IsCut algorithm max [] = Unit {0}
IsCut algorithm max (piece ∷ []) = (piece ≢ []) × IsLastPiece algorithm max piece
IsCut algorithm max (piece ∷ (next ∷ pieces)) =
    (piece ≢ []) × IsPieceBefore algorithm max piece (changes_in (next ∷ pieces))
    × IsCut algorithm max (next ∷ pieces)

-- THE CUT, as a function
-- a change before runs: in the first where that is of its transaction, and else in one of its own
abbrev pub onto_run : Change → List (List Change) → List (List Change)
onto_run change [] = (change ∷ []) ∷ []
onto_run change ([] ∷ runs) = (change ∷ []) ∷ runs
onto_run change ((next ∷ run) ∷ runs) =
    if change.tx == next.tx then (change ∷ (next ∷ run)) ∷ runs
    else (change ∷ []) ∷ ((next ∷ run) ∷ runs)

-- the changes as the longest runs of one transaction
abbrev pub runs_of : List Change → List (List Change)
runs_of [] = []
runs_of (change ∷ changes) = onto_run change (runs_of changes)

-- the changes as runs of one
abbrev pub singles_of : List Change → List (List Change)
singles_of [] = []
singles_of (change ∷ changes) = (change ∷ []) ∷ singles_of changes

-- a piece, unless it is empty
abbrev pub last_piece : List Change → List (List Change)
last_piece [] = []
last_piece (change ∷ changes) = (change ∷ changes) ∷ []

-- a piece takes whole runs until it is full, and so does each after it
abbrev pub pieces_from : ℕ → List Change → List (List Change) → List (List Change)
pieces_from max piece [] = last_piece piece
pieces_from max piece (run ∷ runs) =
    if nat_le max (length (piece ++ run)) then (piece ++ run) ∷ pieces_from max [] runs
    else pieces_from max (piece ++ run) runs

-- the pieces of these changes, in a channel whose batches are full at max changes, 1 or more
abbrev pub cut : Algorithm → ℕ → List Change → List (List Change)
cut Default max changes = pieces_from max [] (runs_of changes)
cut Transactional max changes = runs_of changes
cut Nontransactional max changes = pieces_from max [] (singles_of changes)

-- the pieces by the place of their first change and their number of changes, from a place on
abbrev pub cuts_from : ℕ → List (List Change) → List Cut
cuts_from first [] = []
cuts_from first (piece ∷ pieces) =
    record { first = first; count = length piece } ∷ cuts_from (first + length piece) pieces

abbrev pub cuts_of : Algorithm → ℕ → List Change → List Cut
cuts_of algorithm max changes = cuts_from 0 (cut algorithm max changes)
