-- Numbers as decimal digits.
use Rattle.std.specs.Prelude.{ℕ, ◌+◌, ◌-◌, ◌*◌, ◌^◌, Bool, false, ◌&&◌, ◌||◌, ◌==◌, nat_lt, int_le, int_lt, if◌then◌else◌, List, [], ◌∷◌, ◌++◌, length, take, replicate, ℤ, pos, neg_ℤ}
use Rattle.std.specs.List.{list_all}
use Rattle.std.specs.Char.{is_ascii_digit}
use Rattle.std.specs.Fmt.{decimal}

-- the number that decimal digits write: the sum of the digits times powers of ten
abbrev pub digits_value : List ℕ → ℕ
digits_value [] = 0
digits_value (c ∷ cs) = (c - 48) * 10 ^ length cs + digits_value cs

-- one decimal digit or more
abbrev pub is_digit_text : List ℕ → Bool
is_digit_text text = nat_lt 0 (length text) && list_all is_ascii_digit text

-- the text without one `+` or `-` in front
abbrev pub without_sign : List ℕ → List ℕ
without_sign [] = []
without_sign (c ∷ cs) = if c == 43 || c == 45 then cs else c ∷ cs

-- the text begins with `-`
abbrev pub has_minus : List ℕ → Bool
has_minus [] = false
has_minus (c ∷ cs) = c == 45

-- the number of this size, below zero where there is a minus
abbrev pub signed : Bool → ℕ → ℤ
signed minus n = if minus then neg_ℤ (pos n) else pos n

-- the number lies in the range of 64 bits with a sign
abbrev pub is_in_range : ℤ → Bool
is_in_range z = int_le (neg_ℤ (pos (2 ^ 63))) z && int_lt z (pos (2 ^ 63))

-- the digits of a number without leading zeros, and then zeros in front up to so many digits
abbrev pub padded : ℕ → ℕ → List ℕ
padded width n = replicate (width - length (decimal n)) 48 ++ decimal n

-- the first so many digits of a fraction, with zeros behind it where it has fewer
abbrev pub filled : ℕ → List ℕ → List ℕ
filled count fraction = take count (fraction ++ replicate count 48)
