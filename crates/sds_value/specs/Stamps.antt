-- The texts of days and times of day.
use Rattle.std.specs.Prelude.{ℕ, zero, suc, ◌+◌, ◌*◌, ◌/◌, ◌%◌, Bool, true, false, ◌&&◌, ◌||◌, ◌==◌, nat_le, nat_lt, int_le, if◌then◌else◌, List, [], ◌∷◌, ◌++◌, length, take, drop, codes, ℤ, pos}
use Rattle.std.specs.Char.{is_ascii_digit}
use Rattle.jiff_core.specs.Calendar.{days_from_civil, days_in_month}
use Rattle.sds_value.specs.Digits.{digits_value, is_digit_text, padded, filled}

-- a digit where the mark is `0`, and else the mark itself
abbrev pub is_like : ℕ → ℕ → Bool
is_like mark c = if mark == 48 then is_ascii_digit c else c == mark

-- the text begins with a digit where the pattern has `0`, and with the pattern's own character elsewhere
abbrev pub begins_like : List ℕ → List ℕ → Bool
begins_like [] text = true
begins_like (p ∷ pattern) [] = false
begins_like (p ∷ pattern) (c ∷ text) = is_like p c && begins_like pattern text

-- nothing, or a point and 1 to 9 digits
abbrev pub is_subsecond : List ℕ → Bool
is_subsecond [] = true
is_subsecond (c ∷ cs) = c == 46 && (nat_le (length cs) 9 && is_digit_text cs)

-- year, month and day, a space or `T`, and hour, minute and second, with a fraction of the second or none
abbrev pub has_stamp_form : List ℕ → Bool
has_stamp_form text = (begins_like (codes "0000-00-00 00:00:00") text || begins_like (codes "0000-00-00T00:00:00") text) && is_subsecond (drop 19 text)

-- the number that so many digits write from this place on
abbrev pub number_at : ℕ → ℕ → List ℕ → ℕ
number_at place count text = digits_value (take count (drop place text))

abbrev pub year_in : List ℕ → ℕ
year_in text = number_at 0 4 text

abbrev pub month_in : List ℕ → ℕ
month_in text = number_at 5 2 text

abbrev pub day_in : List ℕ → ℕ
day_in text = number_at 8 2 text

abbrev pub hour_in : List ℕ → ℕ
hour_in text = number_at 11 2 text

abbrev pub minute_in : List ℕ → ℕ
minute_in text = number_at 14 2 text

abbrev pub second_in : List ℕ → ℕ
second_in text = number_at 17 2 text

-- the calendar has this day
abbrev pub is_date : ℕ → ℕ → ℕ → Bool
is_date year month day = nat_le 1 month && (nat_le month 12 && (nat_le 1 day && nat_le day (days_in_month (pos year) month)))

-- the clock has this time
abbrev pub is_time : ℕ → ℕ → ℕ → Bool
is_time hour minute second = nat_lt hour 24 && (nat_lt minute 60 && nat_lt second 60)

-- the nanosecond of the day
abbrev pub nano_of : ℕ → ℕ → ℕ → ℕ → ℕ
nano_of hour minute second nano = ((hour * 60 + minute) * 60 + second) * 1000000000 + nano

-- the text writes a day that the calendar has, and a time that the clock has
abbrev pub is_stamp_text : List ℕ → Bool
is_stamp_text text = has_stamp_form text && (is_date (year_in text) (month_in text) (day_in text) && is_time (hour_in text) (minute_in text) (second_in text))

-- the day number, 0 for 1 January 1970, and the nanosecond of the day
abbrev pub day_value : List ℕ → ℤ
day_value text = days_from_civil (pos (year_in text)) (month_in text) (day_in text)

abbrev pub nano_value : List ℕ → ℕ
nano_value text = nano_of (hour_in text) (minute_in text) (second_in text) (digits_value (filled 9 (drop 20 text)))

-- a day of the years 1 to 9999, and a nanosecond of a day
abbrev pub is_stamp : ℤ → ℕ → Bool
is_stamp day nano = int_le (days_from_civil (pos 1) 1 1) day && (int_le day (days_from_civil (pos 9999) 12 31) && nat_lt nano 86400000000000)

-- the last of the numbers from 1 to `most` whose day is not after this day, or 0
unfoldable pub last_begun : (ℕ → ℤ) → ℤ → ℕ → ℕ
last_begun begins day zero = 0
last_begun begins day (suc most) = if int_le (begins (suc most)) day then suc most else last_begun begins day most

-- the year, the month and the day of the month of a day number
unfoldable pub year_of : ℤ → ℕ
year_of day = last_begun (λ (year : ℕ). days_from_civil (pos year) 1 1) day 9999

unfoldable pub month_of : ℤ → ℕ
month_of day = last_begun (λ (month : ℕ). days_from_civil (pos (year_of day)) month 1) day 12

unfoldable pub day_of : ℤ → ℕ
day_of day = last_begun (λ (number : ℕ). days_from_civil (pos (year_of day)) (month_of day) number) day 31

abbrev pub date_text : ℤ → List ℕ
date_text day = padded 4 (year_of day) ++ (45 ∷ (padded 2 (month_of day) ++ (45 ∷ padded 2 (day_of day))))

abbrev pub time_text : ℕ → List ℕ
time_text nano = padded 2 (nano / 3600000000000) ++ (58 ∷ (padded 2 (nano / 60000000000 % 60) ++ (58 ∷ padded 2 (nano / 1000000000 % 60))))

-- the fewest of 3, 6 or 9 digits that write the fraction of the second
abbrev pub subsecond_text : ℕ → List ℕ
subsecond_text nano =
    if nano % 1000000 == 0 then padded 3 (nano % 1000000000 / 1000000)
    else (if nano % 1000 == 0 then padded 6 (nano % 1000000000 / 1000) else padded 9 (nano % 1000000000))

abbrev pub stamp_text : ℤ → ℕ → List ℕ
stamp_text day nano = date_text day ++ (32 ∷ (time_text nano ++ (46 ∷ subsecond_text nano)))
