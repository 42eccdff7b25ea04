-- Numbers as records write them: in decimal digits, in keys behind zeros.
use Rattle.std.proofs.Common.{◌≡◌, ℕ, zero, suc, ◌+◌, ◌-◌, ◌*◌, ◌<◌, ◌^◌, true, List, [], ◌∷◌, ◌++◌, length, length-append, get_or, map, take, Some, Result, Ok, Err, refl, sym, ap, subst, ◌∙◌, arith, replicate}
use Rattle.std.proofs.lemmas.Fmt.{decimal_nonempty, digits_decimal, digits_value-decimal}
use Rattle.std.proofs.lemmas.List.{take_more}
use Rattle.std.proofs.lemmas.List.Elements.{All-head, All-tail}
use Rattle.std.proofs.lemmas.Str.{IsUtf8-from_ascii}
use Rattle.std.proofs.lemmas.Str.Parse.{parse_digits}
use Rattle.std.specs.Char.{is_ascii_digit}
use Rattle.std.specs.Fmt.{decimal}
use Rattle.std.specs.List.{All, list_all}
use Rattle.std.specs.Str.{IsAscii, IsUtf8, encode_utf8_all}
use Rattle.std.specs.Str.Parse.{ParsesUnsigned}
use Rattle.sds_value.proofs.Characters.{all_small, digit_small}
use Rattle.sds_value.proofs.Integers.{own}
use Rattle.sds_value.proofs.Weights.{digits_value-append, digits_value-zeros}
use Rattle.sds_value.specs.Digits.{digits_value}
use Rattle.sds_value.specs.declared.row.Field.{Field}
use Rattle.sds_value.specs.declared.row.Field.TheVariants.{Text}
use Rattle.sds_history.specs.history.Records.{id_text, number_field}
use Rattle.sds_records.proofs.Texts.{number_bytes}
use Rattle.sds_records.specs.Told.{IsWide}

-- a number behind zeros
abbrev zeroed : ℕ → ℕ → List ℕ
zeroed zeros number = replicate zeros 48 ++ decimal number

value_of : (zeros number : ℕ) → number < 2 ^ 64 → digits_value (zeroed zeros number) ≡ number
value_of zeros number fits =
    digits_value-append (replicate zeros 48) (decimal number)
    ∙ (ap (λ n. n * 10 ^ length (decimal number) + digits_value (decimal number)) (digits_value-zeros zeros)
    ∙ (no_more (10 ^ length (decimal number)) (digits_value (decimal number)) ∙ digits_value-decimal own number fits))
  where
    no_more : (weight value : ℕ) → 0 * weight + value ≡ value
    no_more weight value = grind (arith)

digits_behind : (zeros : ℕ) (text : List ℕ) → list_all is_ascii_digit text ≡ true → list_all is_ascii_digit (replicate zeros 48 ++ text) ≡ true
digits_behind zero text is = is
digits_behind (suc zeros) text is = digits_behind zeros text is

digits_of : (zeros number : ℕ) → number < 2 ^ 64 → list_all is_ascii_digit (zeroed zeros number) ≡ true
digits_of zeros number fits = digits_behind zeros (decimal number) (digits_decimal own number fits)

same_ok : {E : Type 0} (zeros number : ℕ) (r : Result ℕ E) (found : ℕ) → number < 2 ^ 64 → ParsesUnsigned {E = E} 64 10 (zeroed zeros number) r → r ≡ Ok found → found ≡ number
same_ok {E} zeros number r found fits read is =
    let said = parse_digits own {E = E} 64 (zeroed zeros number) (Ok found) (subst (λ (r : Result ℕ E). ParsesUnsigned {E = E} 64 10 (zeroed zeros number) r) is read) (digits_of zeros number fits) in
    said.1 ∙ value_of zeros number fits

-- what is parsed of a number behind zeros is that number
pub number_ok : {E : Type 0} (zeros number : ℕ) (text : List ℕ) (r : Result ℕ E) (found : ℕ) → number < 2 ^ 64 → ParsesUnsigned {E = E} 64 10 text r → r ≡ Ok found → text ≡ replicate zeros 48 ++ decimal number
    → Some found ≡ Some number
number_ok {E} zeros number text r found fits read is same = ap Some (same_ok zeros number r found fits (subst (λ (t : List ℕ). ParsesUnsigned {E = E} 64 10 t r) same read) is)

-- and it is always parsed
pub number_err : {E : Type 0} (zeros number : ℕ) (text : List ℕ) (r : Result ℕ E) (e : E) → number < 2 ^ 64 → ParsesUnsigned {E = E} 64 10 text r → r ≡ Err e → text ≡ replicate zeros 48 ++ decimal number → ⊥
number_err {E} zeros number text r e fits read is same =
    let here : ParsesUnsigned {E = E} 64 10 (zeroed zeros number) (Err e) =
    subst (λ (r : Result ℕ E). ParsesUnsigned {E = E} 64 10 (zeroed zeros number) r) is (subst (λ (t : List ℕ). ParsesUnsigned {E = E} 64 10 t r) same read) in
    let said = parse_digits own {E = E} 64 (zeroed zeros number) (Err e) here (digits_of zeros number fits) in
    let some : 0 < length (zeroed zeros number) = some_digits zeros number fits in
    let small : digits_value (zeroed zeros number) < 2 ^ 64 = rw (value_of zeros number fits) fits in
    said (some, small)
  where
    some_digits : (zeros number : ℕ) → number < 2 ^ 64 → 0 < length (zeroed zeros number)
    some_digits zeros number fits = rw (length-append (replicate zeros 48) (decimal number)) (let one = decimal_nonempty number fits in omega (arith, one))

-- the bytes of a field that writes a number
pub plain_number : (text str : List ℕ) (number : ℕ) → number < 2 ^ 64 → Text text ≡ number_field number → str ≡ encode_utf8_all text → str ≡ replicate 0 48 ++ decimal number
plain_number text str number fits is bytes = bytes ∙ (ap encode_utf8_all (text_is is) ∙ number_bytes number fits)
  where
    text_is : {a b : List ℕ} → Text a ≡ Text b → a ≡ b
    text_is {a} {b} same = cc

-- the number of a key in 20 digits, whose bytes are in ASCII
key_ascii : (zeros number : ℕ) → number < 2 ^ 64 → IsAscii (replicate zeros 48 ++ decimal number)
key_ascii zeros number fits = all_small is_ascii_digit digit_small (replicate zeros 48 ++ decimal number) (digits_of zeros number fits)

pub key_utf8 : (bytes : List ℕ) (number : ℕ) → number < 2 ^ 64 → bytes ≡ id_text number → IsUtf8 bytes
key_utf8 bytes number fits same = subst IsUtf8 (sym same) (IsUtf8-from_ascii (id_text number) (key_ascii (20 - length (decimal number)) number fits))

-- the number that the field at a place writes
pub record WritesAt (item : Field) (numbers : List ℕ) (place : ℕ) : Type 0 where
  pub number : ℕ
  pub fits : IsWide number
  pub field : item ≡ number_field number
  pub there : number ≡ get_or numbers place number
  pub within : place < length numbers

pub writes_at : (numbers : List ℕ) (place : ℕ) (item : Field) → All IsWide numbers → place < length (map number_field numbers) → item ≡ get_or (map number_field numbers) place item
    → WritesAt item numbers place
writes_at [] place item wide within at = absurd (omega (arith, within))
writes_at (n ∷ numbers) zero item wide within at =
    record { number = n; fits = All-head IsWide n numbers wide; field = at; there = refl; within = omega arith }
writes_at (n ∷ numbers) (suc place) item wide within at =
    let later = writes_at numbers place item (All-tail IsWide n numbers wide) (omega (arith, within)) at in
    let less = later.within in
    record { number = later.number; fits = later.fits; field = later.field; there = later.there; within = omega (arith, less) }

pub writes_of : (fields : List Field) (numbers : List ℕ) (place : ℕ) (item : Field) → All IsWide numbers → fields ≡ map number_field numbers → place < length fields → item ≡ get_or fields place item
    → WritesAt item numbers place
writes_of fields numbers place item wide same within at =
    writes_at numbers place item wide (subst (λ (fs : List Field). place < length fs) same within) (subst (λ (fs : List Field). item ≡ get_or fs place item) same at)

-- the numbers so far with that number
pub one_more : (numbers told : List ℕ) (place found : ℕ) (item : Field) (one : WritesAt item numbers place) → told ≡ take place numbers → Some found ≡ Some one.number → told ++ found ∷ [] ≡ take (place + 1) numbers
one_more numbers told place found item one same is =
    ap (λ (x : ℕ). told ++ x ∷ []) (some_of is) ∙ (ap (λ (xs : List ℕ). xs ++ one.number ∷ []) same
    ∙ (ap (λ (x : ℕ). take place numbers ++ x ∷ []) one.there ∙ sym (take_more numbers place one.number one.within)))
  where
    some_of : {A : Type 0} {a b : A} → Some a ≡ Some b → a ≡ b
    some_of {A} {a} {b} same = cc
