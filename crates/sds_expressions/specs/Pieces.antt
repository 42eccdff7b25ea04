-- Pieces of texts, by their bytes.
use Rattle.std.specs.Prelude.{ℕ, ◌==◌, nat_lt, if◌then◌else◌, List, [], ◌∷◌, length, drop, Option, Some, None}
use Rattle.std.specs.List.{starts_with, position_or_len, before_first, after_first}

-- what stands after the prefix, where the text begins with it
abbrev pub behind : List ℕ → List ℕ → Option (List ℕ)
behind prefix text = if starts_with (λ a b. a == b) text prefix
    then Some (drop (length prefix) text) else None

-- what stands before the first such byte and after it, where there is one
abbrev pub split_at : ℕ → List ℕ → Option (List ℕ × List ℕ)
split_at mark text = if nat_lt (position_or_len (λ b. b == mark) text) (length text)
    then Some (before_first (λ b. b == mark) text, after_first (λ b. b == mark) text) else None

-- a byte before the first piece
abbrev pub onto_first : ℕ → List (List ℕ) → List (List ℕ)
onto_first byte [] = (byte ∷ []) ∷ []
onto_first byte (piece ∷ pieces) = (byte ∷ piece) ∷ pieces

-- the pieces between the marks: one more than there are marks
abbrev pub split : ℕ → List ℕ → List (List ℕ)
split mark [] = [] ∷ []
split mark (byte ∷ bytes) = if byte == mark then [] ∷ split mark bytes
    else onto_first byte (split mark bytes)
