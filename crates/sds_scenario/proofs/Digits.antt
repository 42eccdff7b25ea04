-- Numbers of 1 to 19 decimal digits.
use Rattle.std.proofs.Common.{◌≡◌, ℕ, ◌<◌, ◌≤◌, ◌^◌, Bool, true, false, nat_le, List, length, refl, sym, ap, ◌∙◌, arith, rules, Option, None, Some, Result, Ok, Err}
use Rattle.std.proofs.lemmas.Bool.Decides.{nat_tests}
use Rattle.std.proofs.lemmas.Str.{chars-IsAscii}
use Rattle.std.proofs.lemmas.Str.Parse.{IsNumeralModel, numerals_by_weight, parse_digits, digits_value_short}
use Rattle.std.specs.Char.{is_ascii_digit}
use Rattle.std.specs.List.{list_all}
use Rattle.std.specs.Result.{result_ok}
use Rattle.std.specs.Str.{IsAscii, IsUtf8, chars}
use Rattle.std.specs.Str.Parse.{ParsesUnsigned}
use Rattle.sds_value.specs.Values.{digits_value}
use Rattle.sds_value.proofs.Characters.{all_small, digit_small, left_true, right_true, same_test}
use Rattle.sds_scenario.specs.Words.{is_digits, most_digits, number_if}

own : IsNumeralModel (λ ds. list_all is_ascii_digit ds ≡ true) digits_value
own = numerals_by_weight _ (search rules) digits_value (search rules)

all_of : (text : List ℕ) → is_digits text ≡ true → list_all is_ascii_digit text ≡ true
all_of text is = right_true (nat_le (length text) most_digits) _ (right_true (nat_le 1 (length text)) _ is)

some_of : (text : List ℕ) → is_digits text ≡ true → 0 < length text
some_of text is = let first : (nat_le 1 (length text)) ≡ true = left_true (nat_le 1 (length text)) _ is in grind (arith, nat_tests)

few_of : (text : List ℕ) → is_digits text ≡ true → length text ≤ 19
few_of text is =
    let last : (nat_le (length text) most_digits) ≡ true = left_true (nat_le (length text) most_digits) _ (right_true (nat_le 1 (length text)) _ is) in
    grind (arith, nat_tests)

small : (text : List ℕ) → list_all is_ascii_digit text ≡ true → length text ≤ 19 → digits_value text < 2 ^ 64
small text digits few = omega (arith, digits_value_short own text 19 digits few)

parsed : {E : Type 0} (text : List ℕ) (r : Result ℕ E) → ParsesUnsigned 64 10 text r → is_digits text ≡ true → result_ok r ≡ Some (digits_value text)
parsed {E} text (Ok n) read is = ap Some (parse_digits own {E = E} 64 text (Ok n) read (all_of text is)).1
parsed {E} text (Err e) read is = absurd (parse_digits own {E = E} 64 text (Err e) read (all_of text is) (some_of text is, small text (all_of text is) (few_of text is)))

-- what `parse` reads of so many digits
pub read : {E : Type 0} (text bytes : List ℕ) (r : Result ℕ E) (o : Option ℕ) (t : Bool) → ParsesUnsigned 64 10 text r → o ≡ result_ok r → bytes ≡ text → t ≡ is_digits bytes → t ≡ true
    → o ≡ number_if (is_digits text) text
read text bytes r o t reads is same answer holds =
    let digits : is_digits text ≡ true = ap is_digits (sym same) ∙ (sym answer ∙ holds) in
    rw digits (is ∙ parsed text r reads digits)

pub not_read : (text bytes : List ℕ) (t : Bool) → bytes ≡ text → t ≡ is_digits bytes → t ≡ false → None ≡ number_if (is_digits text) text
not_read text bytes t same answer holds =
    let digits : is_digits text ≡ false = ap is_digits (sym same) ∙ (sym answer ∙ holds) in
    rw digits refl

digits_ascii : (xs : List ℕ) → is_digits xs ≡ true → IsAscii xs
digits_ascii xs is = all_small is_ascii_digit digit_small xs (all_of xs is)

-- of a text it reads the number that the text's characters write
pub of_characters : (bytes text : List ℕ) → IsUtf8 bytes → chars bytes ≡ text → number_if (is_digits bytes) bytes ≡ number_if (is_digits text) text
of_characters bytes text utf8 spelt = by (is_digits bytes) refl
  where
    by : (b : Bool) → is_digits bytes ≡ b → number_if (is_digits bytes) bytes ≡ number_if (is_digits text) text
    by true is = ap (λ (xs : List ℕ). number_if (is_digits xs) xs) (sym (chars-IsAscii bytes (digits_ascii bytes is)) ∙ spelt)
    by false is =
        let other : is_digits text ≡ false = ap is_digits (sym spelt) ∙ (sym (same_test is_digits digits_ascii bytes utf8) ∙ is) in
        rw (is, other) refl
