-- Where a lane's changes are cut into batches. The default algorithm is built.
use Rattle.std.specs.Prelude.{◌≡◌, ◌≢◌, ℕ, ◌<◌, ◌≤◌, ◌==◌, nat_le, if◌then◌else◌, List, [], ◌∷◌, ◌++◌, length}
use Rattle.sds_types.specs.declared.row.Change.{Change}

-- a change before the first of these runs, where that run is of its transaction, else a run of its own
abbrev pub onto_run : Change → List (List Change) → List (List Change)
onto_run change [] = (change ∷ []) ∷ []
onto_run change ([] ∷ runs) = (change ∷ []) ∷ runs
onto_run change ((next ∷ run) ∷ runs) =
    if change.tx == next.tx then (change ∷ (next ∷ run)) ∷ runs else (change ∷ []) ∷ ((next ∷ run) ∷ runs)

-- the changes as the longest runs of one transaction
abbrev pub runs_of : List Change → List (List Change)
runs_of [] = []
runs_of (change ∷ changes) = onto_run change (runs_of changes)

-- a piece, unless it is empty
abbrev pub last_piece : List Change → List (List Change)
last_piece [] = []
last_piece (change ∷ changes) = (change ∷ changes) ∷ []

-- a piece takes whole runs until it has at least max changes, and so does each after it
abbrev pub gathered : ℕ → List Change → List (List Change) → List (List Change)
gathered max piece [] = last_piece piece
gathered max piece (run ∷ runs) =
    if nat_le max (length (piece ++ run)) then (piece ++ run) ∷ gathered max [] runs else gathered max (piece ++ run) runs

-- the pieces of a channel whose batches are full at max changes, 1 or more
abbrev pub cut : ℕ → List Change → List (List Change)
cut max changes = gathered max [] (runs_of changes)

-- the changes that pieces join to
abbrev pub joined : List (List Change) → List Change
joined [] = []
joined (piece ∷ pieces) = piece ++ joined pieces

-- a piece ends where its last change's transaction ends in the list that goes on with these changes
abbrev pub EndsBefore : List Change → List Change → Type 0
EndsBefore piece [] = Unit {0}
EndsBefore piece (next ∷ later) = (front : List Change) (last : Change) → piece ≡ front ++ last ∷ [] → last.tx ≢ next.tx

-- no shorter front of a piece that ends with a transaction is full
abbrev pub IsFirstFull : ℕ → List Change → Type 0
IsFirstFull max piece =
    (front : List Change) (next : Change) (later : List Change) → piece ≡ front ++ next ∷ later → EndsBefore front (next ∷ later) → length front < max

-- these pieces are the cut of the changes that they join to: none is empty, each ends with a transaction, each but the last is full, and none was full before
abbrev pub IsCut : ℕ → List (List Change) → Type 0
IsCut max [] = Unit {0}
IsCut max (piece ∷ []) = (piece ≢ []) × IsFirstFull max piece
IsCut max (piece ∷ (next ∷ pieces)) =
    ((piece ≢ []) × EndsBefore piece (joined (next ∷ pieces)) × IsFirstFull max piece × (max ≤ length piece)) × IsCut max (next ∷ pieces)

-- the law of the cut: its pieces join to the changes, and are the cut of them
abbrev pub CutIsTheCut : Type 0
CutIsTheCut = (max : ℕ) (changes : List Change) → 1 ≤ max → IsCut max (cut max changes) × (joined (cut max changes) ≡ changes)

-- the law that it is the only one: two cuts that join to one list are the same
abbrev pub CutIsTheOnly : Type 0
CutIsTheOnly = (max : ℕ) (pieces others : List (List Change)) → IsCut max pieces → IsCut max others → joined pieces ≡ joined others → pieces ≡ others
