-- The printed text of a number of units reads as that number.
use Rattle.std.proofs.Common.{◌≡◌, ℕ, zero, suc, ◌+◌, ◌-◌, ◌^◌, ◌<◌, ◌≤◌, Bool, true, false, not, ◌||◌, ◌==◌, List, [], ◌∷◌, ◌++◌, length, take, take_all, drop, refl, ap, ◌∙◌, arith, ltb, append-nil, length-drop, Ok}
use Rattle.std.proofs.lemmas.Bool.Decides.{nat_tests}
use Rattle.std.proofs.lemmas.List.{length-take-le, take-append-drop, drop_all}
use Rattle.std.proofs.Math.Seq.{take-append_seam, drop-append-add}
use Rattle.std.specs.Prelude.{ℤ, pos, negsuc}
use Rattle.std.specs.Int.{is_negative}
use Rattle.std.specs.List.{list_all, position_or_len, before_first, after_first}
use Rattle.std.specs.Char.{is_ascii_digit}
use Rattle.sds_value.specs.declared.kind.Value.TheVariants.{Decimal}
use Rattle.sds_value.specs.Digits.{digits_value, is_digit_text, without_sign, has_minus, signed, is_in_range, padded, filled}
use Rattle.sds_value.specs.Decimals.{is_point, has_point, is_fraction, with_point, decimal_text}
use Rattle.sds_value.specs.Values.{decimal_of}
use Rattle.sds_value.proofs.Characters.{left_true, right_true}
use Rattle.sds_value.proofs.Integers.{range_mag}
use Rattle.sds_value.proofs.Weights.{filled_long}
use Rattle.sds_value.proofs.Padding.{padded_digits, padded_value, padded_at_least, digit_text}

right_or : (a b : Bool) → b ≡ true → (a || b) ≡ true
right_or true b is = refl
right_or false b is = is

left_or : (a b : Bool) → a ≡ true → (a || b) ≡ true
left_or true b is = refl
left_or false b is = absurd (cc)

all_left : (test : ℕ → Bool) (xs ys : List ℕ) → list_all test (xs ++ ys) ≡ true → list_all test xs ≡ true
all_left test [] ys both = refl
all_left test (x ∷ xs) ys both = rw (left_true (test x) (list_all test (xs ++ ys)) both) (all_left test xs ys (right_true (test x) (list_all test (xs ++ ys)) both))

all_right : (test : ℕ → Bool) (xs ys : List ℕ) → list_all test (xs ++ ys) ≡ true → list_all test ys ≡ true
all_right test [] ys both = both
all_right test (x ∷ xs) ys both = all_right test xs ys (right_true (test x) (list_all test (xs ++ ys)) both)

-- a text without a sign that writes so many units
record IsUnits (s : ℕ) (u : List ℕ) (m : ℕ) : Type 0 where
  pub unsigned : without_sign u ≡ u
  pub positive : has_minus u ≡ false
  pub whole : is_digit_text (before_first is_point u) ≡ true
  pub fraction : (not (has_point u) || is_fraction s (after_first is_point u)) ≡ true
  pub value : digits_value (before_first is_point u ++ filled s (after_first is_point u)) ≡ m

units_read : (s : ℕ) (t u : List ℕ) (m : ℕ) (minus : Bool) (z : ℤ) → IsUnits s u m → without_sign t ≡ u → has_minus t ≡ minus → signed minus m ≡ z → is_in_range z ≡ true → decimal_of s t ≡ Ok (Decimal z)
units_read s t u m minus z units unsigned sign is inside = rw (unsigned, sign, units.whole, units.fraction, units.value, is, inside) refl

digit_plain : (c : ℕ) → is_ascii_digit c ≡ true → (c == 43 || c == 45) ≡ false
digit_plain c is = grind (arith, nat_tests)

digit_positive : (c : ℕ) → is_ascii_digit c ≡ true → (c == 45) ≡ false
digit_positive c is = grind (arith, nat_tests)

digit_no_point : (c : ℕ) → is_ascii_digit c ≡ true → is_point c ≡ false
digit_no_point c is = grind (arith, nat_tests)

plain : (xs ys : List ℕ) → 0 < length xs → list_all is_ascii_digit xs ≡ true → without_sign (xs ++ ys) ≡ xs ++ ys
plain [] ys some digits = absurd (omega arith)
plain (x ∷ xs) ys some digits = rw (digit_plain x (left_true _ _ digits)) refl

positive : (xs ys : List ℕ) → 0 < length xs → list_all is_ascii_digit xs ≡ true → has_minus (xs ++ ys) ≡ false
positive [] ys some digits = absurd (omega arith)
positive (x ∷ xs) ys some digits = digit_positive x (left_true _ _ digits)

-- the first point stands behind the digits
pub place : (xs ys : List ℕ) → list_all is_ascii_digit xs ≡ true → position_or_len is_point (xs ++ ys) ≡ length xs + position_or_len is_point ys
place [] ys digits = omega arith
place (x ∷ xs) ys digits = let rest = place xs ys (right_true (is_ascii_digit x) (list_all is_ascii_digit xs) digits) in rw (digit_no_point x (left_true (is_ascii_digit x) (list_all is_ascii_digit xs) digits)) (omega (arith, rest))

same_units : (s : ℕ) (u w f : List ℕ) (m : ℕ) → without_sign u ≡ u → has_minus u ≡ false → before_first is_point u ≡ w → after_first is_point u ≡ f → is_digit_text w ≡ true
    → (not (has_point u) || is_fraction s f) ≡ true → digits_value (w ++ filled s f) ≡ m → IsUnits s u m
same_units s u w f m unsigned sign before after whole fraction value =
    record { unsigned = unsigned; positive = sign; whole = rw before whole; fraction = rw after fraction; value = rw (before, after) value }

pointed : (s : ℕ) (w f : List ℕ) → 0 < length w → 0 < s → length f ≡ s → list_all is_ascii_digit w ≡ true → list_all is_ascii_digit f ≡ true → IsUnits s (w ++ 46 ∷ f) (digits_value (w ++ f))
pointed s w f some above len digits fraction =
    let at : position_or_len is_point (w ++ 46 ∷ f) ≡ length w = place w (46 ∷ f) digits ∙ omega arith in
    let before : before_first is_point (w ++ 46 ∷ f) ≡ w = ap (λ (n : ℕ). take n (w ++ 46 ∷ f)) at ∙ take-append_seam w (46 ∷ f) in
    let after : after_first is_point (w ++ 46 ∷ f) ≡ f = ap (λ (n : ℕ). drop (n + 1) (w ++ 46 ∷ f)) at ∙ drop-append-add w (46 ∷ f) 1 in
    let cut : filled s f ≡ f = filled_long s f (omega arith) ∙ take_all s f (omega arith) in
    let rest : drop s f ≡ [] = drop_all s f (omega arith) in
    same_units s (w ++ 46 ∷ f) w f (digits_value (w ++ f)) (plain w (46 ∷ f) some digits) (positive w (46 ∷ f) some digits) before after (digit_text w some digits)
    (right_or (not (has_point (w ++ 46 ∷ f))) (is_fraction s f) (rw (digit_text f (omega arith) fraction, rest) refl)) (ap (λ (ds : List ℕ). digits_value (w ++ ds)) cut)

no_point : (n : ℕ) → not (ltb n n) ≡ true
no_point n = grind (arith, nat_tests)

whole_units : (d : List ℕ) → 0 < length d → list_all is_ascii_digit d ≡ true → IsUnits 0 d (digits_value d)
whole_units d some digits =
    let end = append-nil d in
    let at : position_or_len is_point d ≡ length d = rw end at (place d [] digits) ∙ omega arith in
    let before : before_first is_point d ≡ d = ap (λ (n : ℕ). take n d) at ∙ take_all (length d) d (omega arith) in
    let after : after_first is_point d ≡ [] = ap (λ (n : ℕ). drop (n + 1) d) at ∙ drop_all (length d + 1) d (omega arith) in
    same_units 0 d d [] (digits_value d) (rw end at (plain d [] some digits)) (rw end at (positive d [] some digits)) before after (digit_text d some digits)
    (left_or (not (has_point d)) (is_fraction 0 []) (rw at (no_point (length d)))) (ap digits_value end)

above_zero : (k : ℕ) → (suc k == 0) ≡ false
above_zero k = grind (arith, nat_tests)

pad_units : (s m : ℕ) (d : List ℕ) → s + 1 ≤ length d → list_all is_ascii_digit d ≡ true → digits_value d ≡ m → IsUnits s (with_point s d) m
pad_units zero m d long digits value = rw value at (whole_units d (omega arith) digits)
pad_units (suc k) m d long digits value =
    let parts = take-append-drop (length d - suc k) d in
    let both : list_all is_ascii_digit (take (length d - suc k) d ++ drop (length d - suc k) d) ≡ true = rw parts digits in
    let units = pointed (suc k) (take (length d - suc k) d) (drop (length d - suc k) d) (omega (arith, length-take-le (length d - suc k) d (omega arith))) (omega arith) (omega (arith, length-drop (length d - suc k) d))
    (all_left is_ascii_digit (take (length d - suc k) d) (drop (length d - suc k) d) both) (all_right is_ascii_digit (take (length d - suc k) d) (drop (length d - suc k) d) both) in
    let same : digits_value (take (length d - suc k) d ++ drop (length d - suc k) d) ≡ m = ap digits_value parts ∙ value in
    rw (above_zero k) (rw same at units)

printed_units : (s m : ℕ) → m < 2 ^ 64 → IsUnits s (with_point s (padded (s + 1) m)) m
printed_units s m small = pad_units s m (padded (s + 1) m) (padded_at_least (s + 1) m) (padded_digits (s + 1) m small) (padded_value (s + 1) m small)

not_negative : (n : ℕ) → is_negative (pos n) ≡ false
not_negative n = grind (arith, nat_tests)

pub decimal_back : (s : ℕ) (z : ℤ) → is_in_range z ≡ true → decimal_of s (decimal_text s z) ≡ Ok (Decimal z)
decimal_back s (pos n) inside =
    let units = printed_units s n (omega (arith, range_mag (pos n) inside)) in
    rw (not_negative n) (units_read s (with_point s (padded (s + 1) n)) (with_point s (padded (s + 1) n)) n false (pos n) units units.unsigned units.positive refl inside)
decimal_back s (negsuc n) inside =
    let units = printed_units s (suc n) (omega (arith, range_mag (negsuc n) inside)) in
    units_read s (45 ∷ with_point s (padded (s + 1) (suc n))) (with_point s (padded (s + 1) (suc n))) (suc n) true (negsuc n) units refl refl refl inside
