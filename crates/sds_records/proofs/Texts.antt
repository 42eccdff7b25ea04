-- Texts in ASCII: their characters are their bytes.
use Rattle.std.proofs.Common.{◌≡◌, ℕ, zero, suc, ◌<◌, ◌^◌, true, List, [], ◌∷◌, Some, refl, sym, ap, subst, ◌∙◌, arith}
use Rattle.std.proofs.lemmas.Bool.Decides.{nat_tests}
use Rattle.std.proofs.lemmas.Fmt.{IsAscii-decimal}
use Rattle.std.proofs.lemmas.Slice.Eq.{bytes_eq-Decides}
use Rattle.std.proofs.lemmas.Str.{IsUtf8-from_ascii, chars-IsAscii, encodes-IsAscii}
use Rattle.std.specs.Char.{is_ascii}
use Rattle.std.specs.Fmt.{decimal}
use Rattle.std.specs.List.{list_all}
use Rattle.std.specs.Str.{IsAscii, IsUtf8, bytes_eq, chars, encode_utf8_all}
use Rattle.sds_batchtext.proofs.Plain.{left_true, right_true}
use Rattle.sds_history.specs.history.SoundParts.{is_token, is_token_digit}
use Rattle.sds_value.proofs.Characters.{all_small, name_ascii, same_test}
use Rattle.sds_value.specs.Names.{is_name_text}

small : (b : ℕ) → is_ascii b ≡ true → b < 128
small b is = grind (arith, nat_tests)

word_ascii : (word : List ℕ) → list_all is_ascii word ≡ true → IsAscii word
word_ascii [] plain i = omega arith
word_ascii (b ∷ bytes) plain zero = small b (left_true _ _ plain)
word_ascii (b ∷ bytes) plain (suc i) = word_ascii bytes (right_true _ _ plain) i

pub word_text : (word : List ℕ) → list_all is_ascii word ≡ true → chars word ≡ word
word_text word plain = chars-IsAscii word (word_ascii word plain)

pub number_text : (number : ℕ) → number < 2 ^ 64 → chars (decimal number) ≡ decimal number
number_text number fits = chars-IsAscii (decimal number) (IsAscii-decimal number fits)

-- two texts that the test finds equal are one, and a text equals itself
pub equal_texts : (a b : List ℕ) → bytes_eq a b ≡ true → a ≡ b
equal_texts a b same = (bytes_eq-Decides a b).0 same

pub one_text : (a : List ℕ) → bytes_eq a a ≡ true
one_text a = (bytes_eq-Decides a a).1 refl

-- a token is in ASCII, so that its bytes are a token where its characters are one
token_small : (c : ℕ) → is_token_digit c ≡ true → c < 128
token_small c is = grind (arith, nat_tests)

pub token_ascii : (text : List ℕ) → is_token text ≡ true → IsAscii text
token_ascii text is = all_small is_token_digit token_small text (right_true _ _ is)

pub same_token : (bytes str text : List ℕ) → bytes ≡ str → IsUtf8 str → chars str ≡ text → is_token bytes ≡ is_token text
same_token bytes str text same utf8 spelt = ap is_token same ∙ (same_test is_token token_ascii str utf8 ∙ ap is_token spelt)

-- names and numbers are in ASCII: in UTF-8 they are their characters
pub name_bytes : (name : List ℕ) → is_name_text name ≡ true → encode_utf8_all name ≡ name
name_bytes name is = encodes-IsAscii name (name_ascii name is)

pub number_bytes : (number : ℕ) → number < 2 ^ 64 → encode_utf8_all (decimal number) ≡ decimal number
number_bytes number fits = encodes-IsAscii (decimal number) (IsAscii-decimal number fits)

pub name_utf8 : (bytes name : List ℕ) → is_name_text name ≡ true → bytes ≡ encode_utf8_all name → IsUtf8 bytes
name_utf8 bytes name is same = subst IsUtf8 (sym (same ∙ name_bytes name is)) (IsUtf8-from_ascii name (name_ascii name is))

-- the text of a name's bytes is the name
pub name_told : (bytes text name : List ℕ) → is_name_text name ≡ true → bytes ≡ encode_utf8_all name → Some text ≡ Some bytes → chars text ≡ name
name_told bytes text name is same told = ap chars (some_of told ∙ (same ∙ name_bytes name is)) ∙ chars-IsAscii name (name_ascii name is)
  where
    some_of : {A : Type 0} {a b : A} → Some a ≡ Some b → a ≡ b
    some_of {A} {a} {b} same = cc
