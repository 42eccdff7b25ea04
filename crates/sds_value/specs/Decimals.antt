-- The texts of numbers with a fixed number of digits behind the point.
use Rattle.std.specs.Prelude.{ℕ, ◌+◌, ◌-◌, Bool, not, ◌&&◌, ◌||◌, ◌==◌, nat_lt, if◌then◌else◌, List, [], ◌∷◌, ◌++◌, length, take, drop, ℤ, unsigned_abs}
use Rattle.std.specs.Int.{is_negative}
use Rattle.std.specs.List.{list_all, position_or_len, before_first, after_first}
use Rattle.sds_value.specs.Digits.{digits_value, is_digit_text, without_sign, has_minus, signed, padded, filled}

-- the character is the point
abbrev pub is_point : ℕ → Bool
is_point c = c == 46

-- the text has a point
abbrev pub has_point : List ℕ → Bool
has_point text = nat_lt (position_or_len is_point text) (length text)

-- what stands before the first point, without the sign, and what stands behind that point
abbrev pub whole_part : List ℕ → List ℕ
whole_part text = before_first is_point (without_sign text)

abbrev pub fraction_part : List ℕ → List ℕ
fraction_part text = after_first is_point (without_sign text)

-- one digit or more, where those behind the first s are zeros
abbrev pub is_fraction : ℕ → List ℕ → Bool
is_fraction s text = is_digit_text text && list_all (λ c. c == 48) (drop s text)

-- a sign or none, one digit or more, and a point with a fraction or neither
abbrev pub is_decimal_text : ℕ → List ℕ → Bool
is_decimal_text s text = is_digit_text (whole_part text) && (not (has_point (without_sign text)) || is_fraction s (fraction_part text))

-- the number of units of the sth digit behind the point
abbrev pub decimal_value : ℕ → List ℕ → ℤ
decimal_value s text = signed (has_minus text) (digits_value (whole_part text ++ filled s (fraction_part text)))

-- digits with a point before the last s of them, and without one where s is 0
abbrev pub with_point : ℕ → List ℕ → List ℕ
with_point s digits = if s == 0 then digits else take (length digits - s) digits ++ 46 ∷ drop (length digits - s) digits

-- the printed text of a number of units: `-` where it is negative, one digit or more before the point and s behind it
abbrev pub decimal_text : ℕ → ℤ → List ℕ
decimal_text s z = (if is_negative z then 45 ∷ [] else []) ++ with_point s (padded (s + 1) (unsigned_abs z))
