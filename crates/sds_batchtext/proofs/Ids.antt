-- Ids of batches.
use Rattle.std.proofs.Common.{subst, ◌≡◌, ℕ, ◌<◌, ◌^◌, Bool, true, false, ◌&&◌, nat_lt, nat_le, List, [], ◌∷◌, length, refl, sym, ap, ◌∙◌, arith, rules, None, Result, Ok, Err}
use Rattle.std.proofs.lemmas.Bool.Decides.{nat_tests}
use Rattle.std.proofs.lemmas.Str.{chars-IsAscii}
use Rattle.std.proofs.lemmas.Str.Parse.{IsNumeralModel, numerals_by_weight, parse_digits}
use Rattle.std.specs.Char.{is_ascii_digit}
use Rattle.std.specs.List.{list_all}
use Rattle.std.specs.Str.{IsAscii, IsUtf8, chars}
use Rattle.std.specs.Str.Parse.{ParsesUnsigned}
use Rattle.sds_types.specs.Limits.{most_count}
use Rattle.sds_value.specs.Digits.{digits_value, is_digit_text}
use Rattle.sds_value.proofs.Characters.{all_small, digit_small, right_true, same_test}
use Rattle.sds_batchtext.specs.DocLines.{id_of, in_range}

own : IsNumeralModel (λ ds. list_all is_ascii_digit ds ≡ true) digits_value
own = numerals_by_weight _ (search rules) digits_value (search rules)

form : (text : List ℕ) → list_all is_ascii_digit text ≡ true → 0 < length text → is_digit_text text ≡ true
form text digits some = let first : (nat_lt 0 (length text)) ≡ true = grind (arith, nat_tests) in rw (first, digits) refl

ok_parsed : (E : Type 0) (text : List ℕ) (n : ℕ) → ParsesUnsigned {E = E} 64 10 text (Ok n) → list_all is_ascii_digit text ≡ true → id_of text ≡ in_range n
ok_parsed E text n read digits =
    let said = parse_digits own {E = E} 64 text (Ok n) read digits in
    rw (form text digits said.0.0) (ap in_range (sym said.1))

both_false : (a b : Bool) → b ≡ false → (a && b) ≡ false
both_false true b is = is
both_false false b is = refl

great : (n : ℕ) → (n < 2 ^ 64 → ⊥) → in_range n ≡ None
great n big = let last : (nat_le n most_count) ≡ false = grind (arith, nat_tests) in rw (both_false (nat_le 1 n) (nat_le n most_count) last) refl

err_parsed : (E : Type 0) (text : List ℕ) (e : E) → ParsesUnsigned {E = E} 64 10 text (Err e) → list_all is_ascii_digit text ≡ true → id_of text ≡ None
err_parsed E [] e read digits = refl
err_parsed E (c ∷ cs) e read digits =
    let said = parse_digits own {E = E} 64 (c ∷ cs) (Err e) read digits in
    rw (form (c ∷ cs) digits (omega arith)) (great (digits_value (c ∷ cs)) (λ small. said (omega arith, small)))

-- what is parsed of digits
pub parsed : {E : Type 0} (text bytes : List ℕ) (r : Result ℕ E) (n : ℕ) (t : Bool) → ParsesUnsigned {E = E} 64 10 text r → r ≡ Ok n → bytes ≡ text → t ≡ list_all is_ascii_digit bytes → t ≡ true
    → in_range n ≡ id_of text
parsed {E} text bytes r n t read is same answer holds =
    sym (ok_parsed E text n (subst (λ (r : Result ℕ E). ParsesUnsigned {E = E} 64 10 text r) is read) (ap (list_all is_ascii_digit) (sym same) ∙ (sym answer ∙ holds)))

pub not_parsed : {E : Type 0} (text bytes : List ℕ) (r : Result ℕ E) (e : E) (t : Bool) → ParsesUnsigned {E = E} 64 10 text r → r ≡ Err e → bytes ≡ text → t ≡ list_all is_ascii_digit bytes → t ≡ true
    → None ≡ id_of text
not_parsed {E} text bytes r e t read is same answer holds =
    sym (err_parsed E text e (subst (λ (r : Result ℕ E). ParsesUnsigned {E = E} 64 10 text r) is read) (ap (list_all is_ascii_digit) (sym same) ∙ (sym answer ∙ holds)))

-- a text that isn't all digits
pub no_digits : (text : List ℕ) → list_all is_ascii_digit text ≡ false → id_of text ≡ None
no_digits text none = rw (both_false (nat_lt 0 (length text)) (list_all is_ascii_digit text) none) refl

digit_ascii : (xs : List ℕ) → is_digit_text xs ≡ true → IsAscii xs
digit_ascii xs is = all_small is_ascii_digit digit_small xs (right_true _ _ is)

-- the id that a text's characters write is that of its bytes
pub same_id : (bytes text : List ℕ) → IsUtf8 bytes → chars bytes ≡ text → id_of bytes ≡ id_of text
same_id bytes text utf8 spelt = by (is_digit_text bytes) refl
  where
    by : (b : Bool) → is_digit_text bytes ≡ b → id_of bytes ≡ id_of text
    by true is = ap id_of (sym (chars-IsAscii bytes (digit_ascii bytes is)) ∙ spelt)
    by false is =
        let other : is_digit_text text ≡ false = ap is_digit_text (sym spelt) ∙ (sym (same_test is_digit_text digit_ascii bytes utf8) ∙ is) in
        rw (is, other) refl
