-- Lines and columns of a text in UTF-8, by its bytes, from 1.
use Rattle.std.specs.Prelude.{◌≡◌, ◌≤◌, ℕ, ◌+◌, Bool, not, ◌&&◌, ◌==◌, nat_le, nat_lt}
use Rattle.std.specs.Prelude.{if◌then◌else◌, List, [], ◌∷◌, length, take}

-- the byte is none of the further bytes of a character
abbrev pub begins_character : ℕ → Bool
begins_character b = not (nat_le 128 b && nat_lt b 192)

-- the line that a text has come to
abbrev pub line_from : ℕ → List ℕ → ℕ
line_from line [] = line
line_from line (b ∷ text) = line_from (if b == 10 then line + 1 else line) text

-- the column that it has come to, counted in characters
abbrev pub next_column : ℕ → ℕ → ℕ
next_column column b = if b == 10 then 1 else (if begins_character b then column + 1 else column)

abbrev pub column_from : ℕ → List ℕ → ℕ
column_from column [] = column
column_from column (b ∷ text) = column_from (next_column column b) text

-- the line and the column are those of a place of the text
abbrev pub IsPosition : List ℕ → ℕ → ℕ → Type 0
IsPosition text line column = (n : ℕ) × ((n ≤ length text)
    × ((line ≡ line_from 1 (take n text)) × (column ≡ column_from 1 (take n text))))
