-- Where a piece ends, seen from its last change: by how many changes it has, the change's
-- transaction and that of the next change.
use Rattle.std.specs.Prelude.{ℕ, ◌+◌, Bool, true, not, ◌&&◌, ◌==◌, nat_le, if◌then◌else◌, List, [], ◌∷◌, ◌++◌, length, Option, None, Some, option_map, slice_get}
use Rattle.sds_types.specs.declared.channel.Algorithm.{Algorithm}
use Rattle.sds_types.specs.declared.channel.Algorithm.TheVariants.{Default, Transactional, Nontransactional}
use Rattle.sds_types.specs.declared.cut.Cut.{Cut}
use Rattle.sds_types.specs.declared.row.Change.{Change}
use Rattle.sds_trade.specs.rules.Cuts.{last_piece}

-- a transaction ends here: no change follows, or one of another transaction
abbrev pub ends_transaction : ℕ → Option ℕ → Bool
ends_transaction tx None = true
ends_transaction tx (Some next) = not (tx == next)

-- a piece of this many changes ends here
abbrev pub ends_piece : Algorithm → ℕ → ℕ → ℕ → Option ℕ → Bool
ends_piece Default max count tx next = nat_le max count && ends_transaction tx next
ends_piece Transactional max count tx next = ends_transaction tx next
ends_piece Nontransactional max count tx next = nat_le max count

-- the transaction of the first of some changes
abbrev pub next_tx : List Change → Option ℕ
next_tx changes = option_map (λ (change : Change). change.tx) (slice_get changes 0)

-- the pieces of the open piece and of the changes to come
abbrev pub pieces_to_come : Algorithm → ℕ → List Change → List Change → List (List Change)
pieces_to_come algorithm max piece [] = last_piece piece
pieces_to_come algorithm max piece (change ∷ later) =
    if ends_piece algorithm max (length (piece ++ change ∷ [])) change.tx (next_tx later)
    then (piece ++ change ∷ []) ∷ pieces_to_come algorithm max [] later
    else pieces_to_come algorithm max (piece ++ change ∷ []) later

-- the open piece where the changes end, if it has any
abbrev pub last_cut : ℕ → ℕ → List Cut
last_cut first count =
    if count == 0 then [] else record { first = first; count = count } ∷ []

-- the same pieces by their places, of changes that are given by their transactions: the open piece
-- begins at a place and has so many changes
abbrev pub cuts_to_come : Algorithm → ℕ → ℕ → ℕ → List ℕ → List Cut
cuts_to_come algorithm max first count [] = last_cut first count
cuts_to_come algorithm max first count (tx ∷ later) =
    if ends_piece algorithm max (count + 1) tx (slice_get later 0)
    then record { first = first; count = count + 1 }
    ∷ cuts_to_come algorithm max (first + (count + 1)) 0 later
    else cuts_to_come algorithm max first (count + 1) later
