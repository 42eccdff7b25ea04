-- Numbers in decimal digits.
use Rattle.std.proofs.Common.{subst, ◌≡◌, ℕ, ◌<◌, ◌^◌, Bool, true, false, ◌&&◌, nat_lt, nat_le, List, [], ◌∷◌, length, refl, sym, ap, ◌∙◌, arith, rules, None, Result, Ok, Err}
use Rattle.std.proofs.lemmas.Bool.Decides.{nat_tests}
use Rattle.std.proofs.lemmas.Str.Parse.{IsNumeralModel, numerals_by_weight, parse_digits}
use Rattle.std.specs.Char.{is_ascii_digit}
use Rattle.std.specs.List.{list_all}
use Rattle.std.specs.Str.Parse.{ParsesUnsigned}
use Rattle.sds_value.specs.Digits.{digits_value, is_digit_text}
use Rattle.sds_told.specs.Replies.{number_in, ranged}

pub own : IsNumeralModel (λ ds. list_all is_ascii_digit ds ≡ true) digits_value
own = numerals_by_weight _ (search rules) digits_value (search rules)

pub form : (text : List ℕ) → list_all is_ascii_digit text ≡ true → 0 < length text → is_digit_text text ≡ true
form text digits some = let first : (nat_lt 0 (length text)) ≡ true = grind (arith, nat_tests) in rw (first, digits) refl

module _ (least most : ℕ) (small : most < 2 ^ 64) where
  ok_parsed : (E : Type 0) (text : List ℕ) (n : ℕ) → ParsesUnsigned {E = E} 64 10 text (Ok n) → list_all is_ascii_digit text ≡ true → number_in least most text ≡ ranged least most n
  ok_parsed E text n read digits =
      let said = parse_digits own {E = E} 64 text (Ok n) read digits in
      rw (form text digits said.0.0) (ap (ranged least most) (sym said.1))

  both_false : (a b : Bool) → b ≡ false → (a && b) ≡ false
  both_false true b is = is
  both_false false b is = refl

  great : (n : ℕ) → (n < 2 ^ 64 → ⊥) → ranged least most n ≡ None
  great n big =
      let last : (nat_le n most) ≡ false = grind (arith, nat_tests) in rw (both_false (nat_le least n) (nat_le n most) last) refl

  err_parsed : (E : Type 0) (text : List ℕ) (e : E) → ParsesUnsigned {E = E} 64 10 text (Err e) → list_all is_ascii_digit text ≡ true → number_in least most text ≡ None
  err_parsed E [] e read digits = refl
  err_parsed E (c ∷ cs) e read digits =
      let said = parse_digits own {E = E} 64 (c ∷ cs) (Err e) read digits in
      rw (form (c ∷ cs) digits (omega arith)) (great (digits_value (c ∷ cs)) (λ fits. said (omega arith, fits)))

  -- what is parsed of digits
  pub parsed : {E : Type 0} (text bytes : List ℕ) (r : Result ℕ E) (n : ℕ) (t : Bool) → ParsesUnsigned {E = E} 64 10 text r → r ≡ Ok n → bytes ≡ text → t ≡ list_all is_ascii_digit bytes → t ≡ true
      → ranged least most n ≡ number_in least most text
  parsed {E} text bytes r n t read is same answer holds =
      sym (ok_parsed E text n (subst (λ (r : Result ℕ E). ParsesUnsigned {E = E} 64 10 text r) is read) (ap (list_all is_ascii_digit) (sym same) ∙ (sym answer ∙ holds)))

  pub not_parsed : {E : Type 0} (text bytes : List ℕ) (r : Result ℕ E) (e : E) (t : Bool) → ParsesUnsigned {E = E} 64 10 text r → r ≡ Err e → bytes ≡ text → t ≡ list_all is_ascii_digit bytes → t ≡ true
      → None ≡ number_in least most text
  not_parsed {E} text bytes r e t read is same answer holds =
      sym (err_parsed E text e (subst (λ (r : Result ℕ E). ParsesUnsigned {E = E} 64 10 text r) is read) (ap (list_all is_ascii_digit) (sym same) ∙ (sym answer ∙ holds)))
