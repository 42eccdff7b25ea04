-- What `parse` reads against the definition of INTEGER.
use Rattle.std.proofs.Common.{◌≡◌, ℕ, zero, suc, ◌<◌, ◌^◌, Bool, true, false, ◌||◌, ◌==◌, List, [], ◌∷◌, length, refl, sym, ◌∙◌, arith, w64, ltb, Ok, Err, Result, rules}
use Rattle.std.proofs.lemmas.Bool.Decides.{nat_tests}
use Rattle.std.proofs.lemmas.Str.Parse.{IsNumeralModel, numerals_by_weight}
use Rattle.std.proofs.lemmas.Str.{chars-IsAscii}
use Rattle.std.specs.Prelude.{ℤ, pos, negsuc}
use Rattle.std.specs.List.{list_all}
use Rattle.std.specs.Char.{is_ascii_digit}
use Rattle.std.specs.Str.{IsAscii, IsUtf8, chars}
use Rattle.std.specs.Str.Parse as P
use Rattle.std.specs.Str.Parse.{ParsesSigned, without_leading_sign, signed_digits_value, IsNumeral, AllDigits}
use Rattle.std.specs.Prelude.{FitsSigned, if◌then◌else◌}
use lib.Signed.{mag}
use mir.Val.{to_z, of_z}
use Rattle.std.proofs.lemmas.Int.{to_z-of_z}
use Rattle.sds_value.specs.declared.kind.Value.TheVariants.{Integer}
use Rattle.sds_value.specs.declared.refusal.ValueRefusal.TheVariants.{BadText, OutOfRange}
use Rattle.sds_value.specs.Values.{digits_value, without_sign, has_minus, is_integer_text, integer_value, is_in_range, integer_of}
use Rattle.sds_value.proofs.Characters.{left_true, right_true, all_small, digit_small, same_test}

-- the digits of the definition are those of `parse`
pub own : IsNumeralModel (λ ds. list_all is_ascii_digit ds ≡ true) digits_value
own = numerals_by_weight _ (search rules) digits_value (search rules)

same_sign_at : (c : ℕ) (cs : List ℕ) (minus plus : Bool) → (c == 45) ≡ minus → (c == 43) ≡ plus → without_leading_sign (c ∷ cs) ≡ without_sign (c ∷ cs)
same_sign_at c cs true true is_minus is_plus = rw (is_minus, is_plus) refl
same_sign_at c cs true false is_minus is_plus = rw (is_minus, is_plus) refl
same_sign_at c cs false true is_minus is_plus = rw (is_minus, is_plus) refl
same_sign_at c cs false false is_minus is_plus = rw (is_minus, is_plus) refl

same_sign : (bs : List ℕ) → without_leading_sign bs ≡ without_sign bs
same_sign [] = refl
same_sign (c ∷ cs) = same_sign_at c cs _ _ refl refl

same_minus : (bs : List ℕ) → P.starts_with_minus bs ≡ has_minus bs
same_minus [] = refl
same_minus (c ∷ cs) = refl

-- the range is that of `parse`
fits_range : (z : ℤ) → FitsSigned w64 z → is_in_range z ≡ true
fits_range (pos n) f = let small : n < 2 ^ 63 = f.sfits in grind (arith, nat_tests)
fits_range (negsuc n) f = let small : n < 2 ^ 63 = f.sfits in grind (arith, nat_tests)

pub range_mag : (z : ℤ) → is_in_range z ≡ true → mag z < 2 ^ 63
range_mag (pos n) is = grind (arith, nat_tests)
range_mag (negsuc n) is = grind (arith, nat_tests)

pub range_fits : (z : ℤ) → is_in_range z ≡ true → FitsSigned w64 z
range_fits z is = record { sfits = range_mag z is }

pub sign_small : (c : ℕ) → (c == 43 || c == 45) ≡ true → c < 128
sign_small c is = grind (arith, nat_tests)

integer_ascii_at : (c : ℕ) (cs : List ℕ) (b : Bool) → (c == 43 || c == 45) ≡ b → is_integer_text (c ∷ cs) ≡ true → IsAscii (c ∷ cs)
integer_ascii_at c cs true is_sign is zero = sign_small c is_sign
integer_ascii_at c cs true is_sign is (suc i) = let split = rw is_sign at is in all_small is_ascii_digit digit_small cs (right_true _ _ split) i
integer_ascii_at c cs false is_sign is i = let split = rw is_sign at is in all_small is_ascii_digit digit_small (c ∷ cs) (right_true _ _ split) i

pub integer_ascii : (xs : List ℕ) → is_integer_text xs ≡ true → IsAscii xs
integer_ascii [] is = λ i. omega arith
integer_ascii (c ∷ cs) is = integer_ascii_at c cs _ refl is

numeral : (bs : List ℕ) → is_integer_text bs ≡ true → IsNumeral 10 (without_leading_sign bs)
numeral bs is =
    let some = left_true (ltb 0 (length (without_sign bs))) (list_all is_ascii_digit (without_sign bs)) is in
    let digits = right_true (ltb 0 (length (without_sign bs))) (list_all is_ascii_digit (without_sign bs)) is in
    rw (same_sign bs) (positive (length (without_sign bs)) some, own.to (without_sign bs) digits)
  where
    positive : (n : ℕ) → (ltb 0 n) ≡ true → 0 < n
    positive n is = grind (arith, nat_tests)

same_value : (bs : List ℕ) → is_integer_text bs ≡ true → signed_digits_value 10 bs ≡ integer_value bs
same_value bs is =
    let digits = own.to (without_sign bs) (right_true (ltb 0 (length (without_sign bs))) (list_all is_ascii_digit (without_sign bs)) is) in
    rw (same_sign bs, same_minus bs, own.same (without_sign bs) digits) refl

-- what is read, where `parse` reads a number
pub read_ok : {E : Type 0} (bs : List ℕ) (r : Result ℤ E) (z : ℤ) → ParsesSigned w64 10 bs r → r ≡ Ok z → is_integer_text bs ≡ true → integer_of bs ≡ Ok (Integer z)
read_ok bs (Ok y) z parsed is form =
    let here : y ≡ z = cc in
    let same : integer_value bs ≡ z = sym (same_value bs form) ∙ (sym parsed.1 ∙ here) in
    let inside : is_in_range (integer_value bs) ≡ true = fits_range (integer_value bs) (rw (same_value bs form) at parsed.0.1) in
    rw (form, inside, same) refl
read_ok bs (Err e) z parsed is form = absurd (cc)

read_fits : {E : Type 0} (bs : List ℕ) (r : Result ℤ E) (z : ℤ) → ParsesSigned w64 10 bs r → r ≡ Ok z → FitsSigned w64 z
read_fits bs (Ok y) z parsed is =
    let here : signed_digits_value 10 bs ≡ z = sym parsed.1 ∙ (cc) in
    rw here at parsed.0.1
read_fits bs (Err e) z parsed is = absurd (cc)

-- and where it does not
pub read_err : {E : Type 0} (bs : List ℕ) (r : Result ℤ E) (e : E) → ParsesSigned w64 10 bs r → r ≡ Err e → is_integer_text bs ≡ true → integer_of bs ≡ Err OutOfRange
read_err bs (Ok y) e parsed is form = absurd (cc)
read_err bs (Err e') e parsed is form = rw form (outside _ refl)
  where
    outside : (b : Bool) → is_in_range (integer_value bs) ≡ b → (if b then Ok (Integer (integer_value bs)) else Err OutOfRange) ≡ Err OutOfRange
    outside true inside = absurd (parsed (numeral bs form, rw (same_value bs form) (range_fits (integer_value bs) inside)))
    outside false inside = refl

pub integer_same : (bs : List ℕ) → IsUtf8 bs → is_integer_text bs ≡ is_integer_text (chars bs)
integer_same bs utf8 = same_test is_integer_text integer_ascii bs utf8

form_of : (text bytes : List ℕ) (t : Bool) → bytes ≡ text → t ≡ is_integer_text bytes → t ≡ true → is_integer_text text ≡ true
form_of text bytes t same answer is = rw (← same) (sym answer ∙ is)

pub answer_bad : (text bytes : List ℕ) (t : Bool) → IsUtf8 text → bytes ≡ text → t ≡ is_integer_text bytes → t ≡ false → Err BadText ≡ integer_of (chars text)
answer_bad text bytes t utf8 same answer is =
    let form : is_integer_text (chars text) ≡ false = sym (integer_same text utf8) ∙ (rw (← same) (sym answer ∙ is)) in
    rw form refl

pub answer_ok : {E : Type 0} (text bytes : List ℕ) (t : Bool) (r : Result ℤ E) (z : ℤ) → bytes ≡ text → t ≡ is_integer_text bytes → t ≡ true → ParsesSigned w64 10 text r → r ≡ Ok z → Ok (Integer (to_z w64 (of_z w64 z))) ≡ integer_of (chars text)
answer_ok text bytes t r z same answer is parsed read =
    let form = form_of text bytes t same answer is in
    rw (chars-IsAscii text (integer_ascii text form), to_z-of_z w64 z (read_fits text r z parsed read)) (sym (read_ok text r z parsed read form))

pub answer_range : {E : Type 0} (text bytes : List ℕ) (t : Bool) (r : Result ℤ E) (e : E) → bytes ≡ text → t ≡ is_integer_text bytes → t ≡ true → ParsesSigned w64 10 text r → r ≡ Err e → Err OutOfRange ≡ integer_of (chars text)
answer_range text bytes t r e same answer is parsed read =
    let form = form_of text bytes t same answer is in
    rw (chars-IsAscii text (integer_ascii text form)) (sym (read_err text r e parsed read form))
