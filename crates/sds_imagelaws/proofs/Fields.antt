-- Fields of a line: texts of characters, numbers of 64 bits, and words; each line tells its fields.
use Rattle.std.proofs.Common.{◌≡◌, ℕ, zero, suc, ◌<◌, ◌^◌, Bool, true, false, List, [], ◌∷◌, ◌++◌, length, map, Option, None, Some, refl, sym, ap, ◌∙◌, arith, true≢false}
use Rattle.std.specs.List.{AllByRecursion}
use Rattle.std.specs.Option.{option_map_or}
use Rattle.std.specs.Fmt.{decimal}
use Rattle.std.specs.Str.{IsAscii, all_scalars}
use Rattle.std.proofs.lemmas.Fmt.{IsAscii-decimal, decimal_injective}
use Rattle.std.proofs.lemmas.Str.{IsUtf8-from_ascii, chars-IsAscii, scalars-chars}
use Rattle.sds_value.specs.Names.{is_name_text}
use Rattle.sds_value.specs.declared.row.Field.{Field}
use Rattle.sds_value.specs.declared.row.Field.TheVariants.{Null, Text}
use Rattle.sds_value.proofs.Characters.{all_small, left_true, name_ascii, right_true}
use Rattle.sds_line.specs.Written.{are_fields, is_field, written_line}
use Rattle.sds_history.specs.history.Records.{number_field}
use Rattle.sds_history.specs.history.SoundParts.{is_token, is_token_digit}
use Rattle.std.proofs.lemmas.Bool.Decides.{nat_tests}
use Rattle.std.specs.List.{list_all}
use Rattle.sds_imagelaws.proofs.Keys.{formed}
use Rattle.sds_imagelaws.proofs.Tests.{both_true}

abbrev pub Small : ℕ → Type 0
Small number = number < 2 ^ 64

-- TEXTS OF CHARACTERS
pub ascii_good : (text : List ℕ) → IsAscii text → all_scalars text ≡ true
ascii_good text ascii = ap all_scalars (sym (chars-IsAscii text ascii)) ∙ scalars-chars text (IsUtf8-from_ascii text ascii)

pub name_good : (text : List ℕ) → is_name_text text ≡ true → all_scalars text ≡ true
name_good text is = ascii_good text (name_ascii text is)

pub number_good : (number : ℕ) → Small number → all_scalars (decimal number) ≡ true
number_good number small = ascii_good (decimal number) (IsAscii-decimal number small)

token_small : (c : ℕ) → is_token_digit c ≡ true → c < 128
token_small c is = grind (arith, nat_tests)

pub token_good : (text : List ℕ) → is_token text ≡ true → all_scalars text ≡ true
token_good text is = ascii_good text (all_small is_token_digit token_small text (right_true _ (list_all is_token_digit text) is))

-- LISTS OF FIELDS
pub with_text : (text : List ℕ) (fields : List Field) → all_scalars text ≡ true → are_fields fields ≡ true → are_fields (Text text ∷ fields) ≡ true
with_text text fields is are = both_true (all_scalars text) (are_fields fields) is are

pub with_field : (field : Field) (fields : List Field) → is_field field ≡ true → are_fields fields ≡ true → are_fields (field ∷ fields) ≡ true
with_field field fields is are = both_true (is_field field) (are_fields fields) is are

pub fields_append : (first second : List Field) → are_fields first ≡ true → are_fields second ≡ true → are_fields (first ++ second) ≡ true
fields_append [] second are also = also
fields_append (field ∷ first) second are also =
    with_field field (first ++ second) (left_true (is_field field) (are_fields first) are)
    (fields_append first second (right_true (is_field field) (are_fields first) are) also)

abbrev pub Good : List ℕ → Type 0
Good text = all_scalars text ≡ true

pub texts_good : (texts : List (List ℕ)) → AllByRecursion Good texts → are_fields (map Text texts) ≡ true
texts_good [] good = refl
texts_good (text ∷ texts) good = with_text text (map Text texts) good.0 (texts_good texts good.1)

pub numbers_good : (numbers : List ℕ) → AllByRecursion Small numbers → are_fields (map number_field numbers) ≡ true
numbers_good [] small = refl
numbers_good (n ∷ ns) small = with_text (decimal n) (map number_field ns) (number_good n small.0) (numbers_good ns small.1)

-- WHAT A LINE TELLS
abbrev pub text_in : Field → List ℕ
text_in Null = []
text_in (Text text) = text

abbrev pub first_field : List Field → Field
first_field [] = Null
first_field (field ∷ fields) = field

abbrev pub later_fields : List Field → List Field
later_fields [] = []
later_fields (field ∷ fields) = fields

-- a line that begins with a text
pub line_tells : (a b : List ℕ) (xs ys : List Field) → are_fields (Text a ∷ xs) ≡ true → are_fields (Text b ∷ ys) ≡ true
    → written_line (Text a ∷ xs) ≡ written_line (Text b ∷ ys) → Text a ∷ xs ≡ Text b ∷ ys
line_tells a b xs ys are also same = formed (Text a ∷ xs) (Text b ∷ ys) are also refl refl same

pub first_text : (a b : List ℕ) (xs ys : List Field) → Text a ∷ xs ≡ Text b ∷ ys → a ≡ b
first_text a b xs ys is = ap (λ fields. text_in (first_field fields)) is

pub rest_of : (a b : Field) (xs ys : List Field) → a ∷ xs ≡ b ∷ ys → xs ≡ ys
rest_of a b xs ys is = ap later_fields is

pub first_number : (m n : ℕ) (xs ys : List Field) → Small m → Small n → number_field m ∷ xs ≡ number_field n ∷ ys → m ≡ n
first_number m n xs ys small also is = decimal_injective m n small also (first_text (decimal m) (decimal n) xs ys is)

pub all_numbers : (ms ns : List ℕ) → AllByRecursion Small ms → AllByRecursion Small ns → map number_field ms ≡ map number_field ns → ms ≡ ns
all_numbers [] [] small also is = refl
all_numbers [] (n ∷ ns) small also is = absurd (true≢false (ap (λ l. elim l [ [] ↦ true | x ∷ xs ↦ false ]) is))
all_numbers (m ∷ ms) [] small also is = absurd (true≢false (sym (ap (λ l. elim l [ [] ↦ true | x ∷ xs ↦ false ]) is)))
all_numbers (m ∷ ms) (n ∷ ns) small also is =
    ap (λ k. k ∷ ms) (first_number m n (map number_field ms) (map number_field ns) small.0 also.0 is)
    ∙ ap (λ ks. n ∷ ks) (all_numbers ms ns small.1 also.1 (rest_of (number_field m) (number_field n) (map number_field ms) (map number_field ns) is))

-- a number at a place
abbrev pub number_at : ℕ → List ℕ → ℕ
number_at zero [] = 0
number_at zero (n ∷ ns) = n
number_at (suc place) [] = 0
number_at (suc place) (n ∷ ns) = number_at place ns

-- whether a field is a text, and the first byte of a text, by which words are told
abbrev pub is_text : Field → Bool
is_text Null = false
is_text (Text text) = true

abbrev pub first_byte : List ℕ → ℕ
first_byte [] = 0
first_byte (c ∷ cs) = c

-- A TEXT OR NONE
abbrev text_back : Field → Option (List ℕ)
text_back Null = None
text_back (Text text) = Some text

text_is : (text : Option (List ℕ)) → text_back (option_map_or (λ (t : List ℕ). Text t) text Null) ≡ text
text_is None = refl
text_is (Some text) = refl

pub same_option : (a b : Option (List ℕ)) → option_map_or (λ (t : List ℕ). Text t) a Null ≡ option_map_or (λ (t : List ℕ). Text t) b Null → a ≡ b
same_option a b is = sym (text_is a) ∙ (ap text_back is ∙ text_is b)

-- LISTS as long as each other that go on
pub record Parted {A : Type 0} (xs ys us vs : List A) : Type 0 where
  pub first : xs ≡ ys
  pub second : us ≡ vs

pub parted : {A : Type 0} (xs ys us vs : List A) → length xs ≡ length ys → xs ++ us ≡ ys ++ vs → Parted xs ys us vs
parted [] [] us vs long is = record { first = refl; second = is }
parted [] (y ∷ ys) us vs long is = absurd (omega (arith, long))
parted (x ∷ xs) [] us vs long is = absurd (omega (arith, long))
parted (x ∷ xs) (y ∷ ys) us vs long is =
    let rest = parted xs ys us vs (omega (arith, long)) (ap (λ l. elim l [ [] ↦ xs ++ us | z ∷ zs ↦ zs ]) is) in
    record {
      first = ap (λ z. z ∷ xs) (ap (λ l. elim l [ [] ↦ x | z ∷ zs ↦ z ]) is) ∙ ap (λ zs. y ∷ zs) rest.first;
      second = rest.second;
    }
