-- Texts of numbers with a point.
use Rattle.std.proofs.Common.{◌≡◌, ℕ, zero, suc, ◌<◌, ◌≤◌, Bool, true, false, not, ◌&&◌, ◌||◌, ◌==◌, List, [], ◌∷◌, length, take_all, drop, refl, sym, subst, arith, ltb, Result, Ok, Err}
use Rattle.std.proofs.lemmas.Bool.Decides.{nat_tests}
use Rattle.std.proofs.lemmas.List.Sums.{split_at_first, passes_at_first}
use Rattle.std.proofs.lemmas.Str.{IsAscii-append}
use Rattle.std.specs.List.{position_or_len, before_first, after_first, list_all}
use Rattle.std.specs.Char.{is_ascii_digit}
use Rattle.std.specs.Str.{IsAscii, IsUtf8, chars}
use Rattle.std.specs.Prelude.{if◌then◌else◌}
use Rattle.sds_value.specs.declared.kind.Value.{Value}
use Rattle.sds_value.specs.declared.refusal.ValueRefusal.{ValueRefusal}
use Rattle.sds_value.specs.declared.kind.Value.TheVariants.{Decimal}
use Rattle.sds_value.specs.declared.refusal.ValueRefusal.TheVariants.{OutOfRange}
use Rattle.sds_value.specs.Digits.{is_digit_text, is_in_range}
use Rattle.sds_value.specs.Decimals.{is_point, has_point, is_fraction, is_decimal_text, decimal_value}
use Rattle.sds_value.specs.Values.{decimal_of}
use Rattle.sds_value.proofs.Characters.{left_true, right_true, all_small, digit_small, same_of, back_of}
use Rattle.sds_value.proofs.Integers.{sign_small}

pub digits_ascii : (xs : List ℕ) → is_digit_text xs ≡ true → IsAscii xs
digits_ascii xs is = all_small is_ascii_digit digit_small xs (right_true (ltb 0 (length xs)) (list_all is_ascii_digit xs) is)

pub cons_ascii : (c : ℕ) (cs : List ℕ) → c < 128 → IsAscii cs → IsAscii (c ∷ cs)
cons_ascii c cs small ascii zero = small
cons_ascii c cs small ascii (suc i) = ascii i

point_small : (c : ℕ) → is_point c ≡ true → c < 128
point_small c is = grind (arith, nat_tests)

-- digits, a point and digits
pointed_ascii : (u : List ℕ) → position_or_len is_point u < length u → IsAscii (before_first is_point u) → IsAscii (after_first is_point u) → IsAscii u
pointed_ascii u inside before after =
    let point = point_small _ (passes_at_first is_point u 0 inside) in
    subst IsAscii (sym (split_at_first is_point u 0 inside)) (IsAscii-append (before_first is_point u) _ before (cons_ascii _ (after_first is_point u) point after))

whole_ascii : (u : List ℕ) → length u ≤ position_or_len is_point u → IsAscii (before_first is_point u) → IsAscii u
whole_ascii u none before = subst IsAscii (take_all (position_or_len is_point u) u none) before

unsigned_by : (s : ℕ) (u : List ℕ) (b : Bool) → has_point u ≡ b → (is_digit_text (before_first is_point u) && (not b || is_fraction s (after_first is_point u))) ≡ true → IsAscii u
unsigned_by s u true point is =
    let fraction = right_true (is_digit_text (before_first is_point u)) (is_fraction s (after_first is_point u)) is in
    pointed_ascii u (inside point) (digits_ascii (before_first is_point u) (left_true (is_digit_text (before_first is_point u)) (is_fraction s (after_first is_point u)) is))
    (digits_ascii (after_first is_point u) (left_true (is_digit_text (after_first is_point u)) (list_all (λ (c : ℕ). c == 48) (drop s (after_first is_point u))) fraction))
  where
    inside : has_point u ≡ true → position_or_len is_point u < length u
    inside is = grind (arith, nat_tests)
unsigned_by s u false point is = whole_ascii u (outside point) (digits_ascii (before_first is_point u) (left_true (is_digit_text (before_first is_point u)) true is))
  where
    outside : has_point u ≡ false → length u ≤ position_or_len is_point u
    outside is = grind (arith, nat_tests)

unsigned_ascii : (s : ℕ) (u : List ℕ) → (is_digit_text (before_first is_point u) && (not (has_point u) || is_fraction s (after_first is_point u))) ≡ true → IsAscii u
unsigned_ascii s u is = unsigned_by s u (has_point u) refl is

decimal_ascii_at : (s c : ℕ) (cs : List ℕ) (b : Bool) → (c == 43 || c == 45) ≡ b → is_decimal_text s (c ∷ cs) ≡ true → IsAscii (c ∷ cs)
decimal_ascii_at s c cs true is_sign is = let here = rw is_sign at is in cons_ascii c cs (sign_small c is_sign) (unsigned_ascii s cs here)
decimal_ascii_at s c cs false is_sign is = let here = rw is_sign at is in unsigned_ascii s (c ∷ cs) here

pub decimal_ascii : (s : ℕ) (xs : List ℕ) → is_decimal_text s xs ≡ true → IsAscii xs
decimal_ascii s [] is = λ i. omega arith
decimal_ascii s (c ∷ cs) is = decimal_ascii_at s c cs _ refl is

abbrev decimal_inside : ℕ → List ℕ → Result Value ValueRefusal
decimal_inside s xs = if is_in_range (decimal_value s xs) then Ok (Decimal (decimal_value s xs)) else Err OutOfRange

pub decimal_chars : (s : ℕ) (text : List ℕ) (value : Value) → decimal_of s text ≡ Ok value → decimal_of s (chars text) ≡ Ok value
decimal_chars s = back_of (is_decimal_text s) (decimal_inside s) (decimal_ascii s)

pub decimal_same : (s : ℕ) (bs : List ℕ) → IsUtf8 bs → decimal_of s bs ≡ decimal_of s (chars bs)
decimal_same s bs utf8 = same_of (is_decimal_text s) (decimal_inside s) (decimal_ascii s) bs utf8
