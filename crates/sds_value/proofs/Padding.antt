-- Digits with zeros in front.
use Rattle.std.proofs.Common.{◌≡◌, ℕ, zero, suc, ◌-◌, ◌^◌, ◌<◌, ◌≤◌, Bool, true, false, List, [], ◌∷◌, ◌++◌, length, replicate, refl, ◌∙◌, arith, length-append, append-nil, ltb, ◌==◌}
use Rattle.std.proofs.lemmas.List.{length-replicate}
use Rattle.std.proofs.lemmas.Bool.Decides.{nat_tests}
use Rattle.std.proofs.lemmas.Fmt.{digits_decimal, digits_value-decimal, length-decimal-le}
use Rattle.std.specs.List.{list_all}
use Rattle.std.specs.Char.{is_ascii_digit}
use Rattle.std.specs.Fmt.{decimal, styled_decimal, format_spec, padded_integral, char_count}
use Rattle.sds_value.specs.Digits.{digits_value, is_digit_text, padded}
use Rattle.sds_value.proofs.Characters.{left_true, right_true}
use Rattle.sds_value.proofs.Integers.{own}
use Rattle.sds_value.proofs.Weights.{digits_value-append, digits_value-zeros}

pub all_append : (test : ℕ → Bool) (xs ys : List ℕ) → list_all test xs ≡ true → list_all test ys ≡ true → list_all test (xs ++ ys) ≡ true
all_append test [] ys first second = second
all_append test (x ∷ xs) ys first second = rw (left_true (test x) (list_all test xs) first) (all_append test xs ys (right_true (test x) (list_all test xs) first) second)

all_zeros : (n : ℕ) → list_all is_ascii_digit (replicate n 48) ≡ true
all_zeros zero = refl
all_zeros (suc n) = all_zeros n

pub padded_digits : (width n : ℕ) → n < 2 ^ 64 → list_all is_ascii_digit (padded width n) ≡ true
padded_digits width n small = all_append is_ascii_digit (replicate (width - length (decimal n)) 48) (decimal n) (all_zeros (width - length (decimal n))) (digits_decimal own n small)

pub padded_value : (width n : ℕ) → n < 2 ^ 64 → digits_value (padded width n) ≡ n
padded_value width n small =
    let zeros = digits_value-zeros (width - length (decimal n)) in
    let both = digits_value-append (replicate (width - length (decimal n)) 48) (decimal n) in
    both ∙ (rw (zeros, digits_value-decimal own n small) (omega arith))

pub padded_at_least : (width n : ℕ) → width ≤ length (padded width n)
padded_at_least width n = omega (arith, length-append (replicate {A = ℕ} (width - length (decimal n)) 48) (decimal n), length-replicate {A = ℕ} (width - length (decimal n)) 48)

pub padded_length : (width n : ℕ) → 0 < width → n < 10 ^ width → n < 2 ^ 64 → length (padded width n) ≡ width
padded_length width n some fits small =
    omega (arith, length-append (replicate {A = ℕ} (width - length (decimal n)) 48) (decimal n), length-replicate {A = ℕ} (width - length (decimal n)) 48, length-decimal-le width n some fits small)

some_test : (n : ℕ) → 0 < n → ltb 0 n ≡ true
some_test n some = grind (arith, nat_tests)

pub digit_text : (xs : List ℕ) → 0 < length xs → list_all is_ascii_digit xs ≡ true → is_digit_text xs ≡ true
digit_text xs some digits = rw (some_test (length xs) some, digits) refl

-- what a format writes that asks for zeros in front
pub styled_is : (width n : ℕ) → (width == 0) ≡ false → styled_decimal (format_spec 32 0 4 width (2 ^ 64 - 1)) n ≡ padded width n
unfolding padded_integral char_count
styled_is width n some =
    let none : width - length (decimal n) - 0 - 0 ≡ width - length (decimal n) = omega arith in
    rw (some, none, append-nil (decimal n)) refl
