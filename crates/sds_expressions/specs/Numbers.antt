-- Numbers that are written plainly: decimal digits without a sign and without a leading zero.
use Rattle.std.specs.Prelude.{ℕ, ◌+◌, ◌-◌, ◌*◌, Bool, false, not, ◌&&◌, ◌==◌, nat_le, nat_lt, if◌then◌else◌, List, [], ◌∷◌, length, Option, Some, None}
use Rattle.std.specs.List.{list_all}
use Rattle.std.specs.Char.{is_ascii_digit}

-- the number that the digits write after a number that is read already
abbrev pub number_from : ℕ → List ℕ → ℕ
number_from n [] = n
number_from n (digit ∷ digits) = number_from (n * 10 + (digit - 48)) digits

-- a zero stands in front of further digits
abbrev pub is_padded : List ℕ → Bool
is_padded [] = false
is_padded (digit ∷ []) = false
is_padded (digit ∷ next ∷ digits) = digit == 48

-- one digit or more, and no leading zero
abbrev pub is_plain : List ℕ → Bool
is_plain text = nat_lt 0 (length text) && (list_all is_ascii_digit text && not (is_padded text))

-- a number, where it is at most this
abbrev pub up_to : ℕ → ℕ → Option ℕ
up_to most n = if nat_le n most then Some n else None

-- the number that a text writes plainly, where it is at most this
abbrev pub plain_number : ℕ → List ℕ → Option ℕ
plain_number most text = if is_plain text then up_to most (number_from 0 text) else None
