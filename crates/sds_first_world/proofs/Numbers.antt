-- Numbers of 1 to 19 decimal digits, and lists of four fields.
use Rattle.std.proofs.Common.{◌≡◌, ℕ, ◌<◌, ◌≤◌, ◌^◌, Bool, true, false, nat_le, List, [], ◌∷◌, length, refl, sym, ap, ◌∙◌, arith, rules, Option, None, Some, Result, Ok, Err, MatchOption, subst}
use Rattle.std.proofs.lemmas.Bool.Decides.{nat_tests}
use Rattle.std.proofs.lemmas.Str.{chars-IsAscii}
use Rattle.std.proofs.lemmas.Str.Parse.{IsNumeralModel, numerals_by_weight, parse_digits, digits_value_short}
use Rattle.std.specs.Char.{is_ascii_digit}
use Rattle.std.specs.List.{list_all}
use Rattle.std.specs.Result.{result_ok}
use Rattle.std.specs.Str.{IsAscii, IsUtf8, chars}
use Rattle.std.specs.Str.Parse.{ParsesUnsigned}
use Rattle.sds_value.specs.Values.{digits_value}
use Rattle.sds_value.proofs.Characters.{all_small, digit_small, right_true, same_test}
use Rattle.sds_first_world.specs.Scenario.{is_number}

own : IsNumeralModel (λ ds. list_all is_ascii_digit ds ≡ true) digits_value
own = numerals_by_weight _ (search rules) digits_value (search rules)

form : (text : List ℕ) → list_all is_ascii_digit text ≡ true → 0 < length text → length text ≤ 19 → is_number text ≡ true
form text digits some few =
    let first : (nat_le 1 (length text)) ≡ true = grind (arith, nat_tests) in
    let last : (nat_le (length text) 19) ≡ true = grind (arith, nat_tests) in
    rw (first, last, digits) refl

small : (text : List ℕ) → list_all is_ascii_digit text ≡ true → length text ≤ 19 → digits_value text < 2 ^ 64
small text digits few = omega (arith, digits_value_short own text 19 digits few)

parsed : {E : Type 0} (text : List ℕ) (r : Result ℕ E) → ParsesUnsigned 64 10 text r → list_all is_ascii_digit text ≡ true → length text ≤ 19
    → MatchOption (result_ok r) (is_number text ≡ false) (λ n. (is_number text ≡ true) × (n ≡ digits_value text))
parsed {E} text (Ok n) read digits few =
    let said = parse_digits own {E = E} 64 text (Ok n) read digits in
    (form text digits said.0.0 few, said.1)
parsed {E} [] (Err e) read digits few = refl
parsed {E} (c ∷ cs) (Err e) read digits few =
    let said = parse_digits own {E = E} 64 (c ∷ cs) (Err e) read digits in
    absurd (said (omega arith, small (c ∷ cs) digits few))

-- what `parse` reads, where all bytes are digits and there are few
pub read_digits : {E : Type 0} (text bytes : List ℕ) (r : Result ℕ E) (o : Option ℕ) (t : Bool) → ParsesUnsigned 64 10 text r → o ≡ result_ok r → bytes ≡ text
    → t ≡ list_all is_ascii_digit bytes → t ≡ true → length bytes ≤ 19 → MatchOption o (is_number text ≡ false) (λ n. (is_number text ≡ true) × (n ≡ digits_value text))
read_digits text bytes r o t read is same answer holds few =
    let digits : list_all is_ascii_digit text ≡ true = ap (list_all is_ascii_digit) (sym same) ∙ (sym answer ∙ holds) in
    let short : length text ≤ 19 = rw same at few in
    rw is (parsed text r read digits short)

-- of a text it reads the number that the text's characters write
number_ascii : (xs : List ℕ) → is_number xs ≡ true → IsAscii xs
number_ascii xs is = all_small is_ascii_digit digit_small xs (right_true (nat_le (length xs) 19) _ (right_true (nat_le 1 (length xs)) _ is))

pub of_characters : (bytes text : List ℕ) (o : Option ℕ) → IsUtf8 bytes → chars bytes ≡ text → MatchOption o (is_number bytes ≡ false) (λ n. (is_number bytes ≡ true) × (n ≡ digits_value bytes))
    → MatchOption o (is_number text ≡ false) (λ n. (is_number text ≡ true) × (n ≡ digits_value text))
of_characters bytes text None utf8 is read = ap is_number (sym is) ∙ (sym (same_test is_number number_ascii bytes utf8) ∙ read)
of_characters bytes text (Some n) utf8 is read =
    let same : bytes ≡ text = sym (chars-IsAscii bytes (number_ascii bytes read.0)) ∙ is in subst (λ (l : List ℕ). (is_number l ≡ true) × (n ≡ digits_value l)) same read
